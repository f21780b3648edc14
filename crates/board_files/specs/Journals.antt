-- The description of a journal, which `--check-journal` prints.
use Rattle.std.specs.Prelude.{◌≡◌, ◌⊎◌, ◌+◌, ◌-◌, ◌*◌, ℕ, Bool, List, [], Option, Some, None, IsSomeAnd, length, nat_eq, slice_get}
use Rattle.std.specs.List.{count_by, list_all}
use Rattle.nor_files.specs.Files.{View}
use Rattle.nor_journal.specs.Text.{Content, IsContent, SavedSector, text}
use Rattle.nor_args.specs.Text.{Text}
use Rattle.nor_console.specs.Files.{IsSharingFault}
use Rattle.nor_console.specs.Stored.{IsRead}
use Rattle.nor_console.specs.declared.messages.Fault.{Fault}
use Rattle.nor_jobs.specs.Sources.{IsInvalid}
use Rattle.board_files.specs.declared.journals.Description.{Description}

abbrev pub are_blank : List ℕ → Bool
are_blank bytes = list_all (λ byte. nat_eq byte 255) bytes

abbrev pub is_blank : SavedSector → Bool
is_blank sector = are_blank sector.bytes

-- Holds for the first address of the first sector in `saved` and the last address of the last sector in `saved`, or for
-- `None` if `saved` is empty.
abbrev pub AreEnds : List SavedSector → Option (ℕ × ℕ) → Type 0
AreEnds saved None = saved ≡ []
AreEnds saved (Some ends) =
    IsSomeAnd (slice_get saved 0) (λ sector. ends.0 ≡ 4096 * sector.number)
    × IsSomeAnd (slice_get saved (length saved - 1)) (λ sector. ends.1 ≡ 4096 * sector.number + 4095)

pub record Describes (journal : Content) (described : Description) : Type 0 where
  pub id : described.id ≡ journal.id
  pub size : described.size ≡ journal.size
  pub unique : described.unique ≡ journal.unique
  pub status : described.status ≡ journal.status
  pub saved : described.saved ≡ length journal.saved
  pub ends : AreEnds journal.saved described.ends
  pub blank : described.blank ≡ count_by is_blank journal.saved

-- Holds if a read of the file returns the encoding of `journal`, so the journal is sealed and undamaged.
pub record IsSealed (view : View) (name : Text) (journal : Content) : Type 0 where
  pub sound : IsContent journal
  pub read : IsRead view name 16793662 (text journal)

abbrev pub IsSealedIn : View → (name : Text) → Type 0
IsSealedIn view name = (journal : Content) × IsSealed view name journal

abbrev pub IsDescribedIn : View → (name : Text) → Description → Type 0
IsDescribedIn view name described = (journal : Content) × IsSealed view name journal × Describes journal described

abbrev pub FailsToDescribe : View → (name : Text) → Fault → Type 0
FailsToDescribe view name fault = IsSharingFault view name 16793662 fault ⊎ IsInvalid view name fault
