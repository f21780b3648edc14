-- The image in a journal that saves the whole chip, and this journal without its unique ID, to restore another device.
use Rattle.std.specs.Prelude.{◌≡◌, ◌<◌, ◌/◌, ◌⊎◌, ◌++◌, ℕ, zero, suc, Bool, true, false, List, [], Option, None, Some, codes}
use Rattle.std.specs.Prelude.{length, nat_eq, unwrap_or}
use Rattle.std.specs.Borrow.{Bor}
use Rattle.std.specs.List.{starts_with}
use Rattle.nor_files.specs.Files.{View, is_lawful}
use Rattle.nor_journal.specs.Saved.{is_saved, saved_in}
use Rattle.nor_journal.specs.Text.{Content, IsContent, text}
use Rattle.nor_request.specs.declared.refusal.Refusal.TheVariants.{Memory}
use Rattle.nor_args.specs.Text.{Text}
use Rattle.nor_args.specs.declared.job.Task.{Task}
use Rattle.nor_args.specs.declared.job.Task.TheVariants as task
use Rattle.nor_console.specs.declared.messages.Fault.TheVariants as end
use Rattle.nor_jobs.specs.Restoring.{IsNoJournal}
use Rattle.board_files.specs.Journals.{IsSealed, IsSealedIn}
use Rattle.board_files.specs.declared.images.NotWhole.{NotWhole}
use Rattle.board_files.specs.declared.early_ends.EarlyEnd.{EarlyEnd}
use Rattle.board_files.specs.declared.early_ends.EarlyEnd.TheVariants as early

unfoldable pub first_sectors : Content → (n : ℕ) → List ℕ
first_sectors journal zero = []
first_sectors journal (suc n) = first_sectors journal n ++ unwrap_or (saved_in journal.saved n) []

-- The bytes of the saved sectors in the order of their addresses, without gaps for sectors that aren't saved.
abbrev pub saved_image : Content → List ℕ
saved_image journal = first_sectors journal (journal.size / 4096)

abbrev pub IsWhole : Content → Type 0
IsWhole journal = (sector : ℕ) → sector < journal.size / 4096 → is_saved journal sector ≡ true

pub record IsImageIn (journal : Content) (image : List ℕ) : Type 0 where
  pub whole : IsWhole journal
  pub bytes : image ≡ saved_image journal

-- Holds if the journal lacks a sector of its chip, and `fault` has `name` and the number of saved sectors.
pub record IsNotWholeIn (journal : Content) (name : Bor Text) (fault : NotWhole) : Type 0 where
  pub named : fault.name ≡ name
  pub saved : fault.saved ≡ length journal.saved
  pub sector : ℕ
  pub inside : sector < journal.size / 4096
  pub lacks : is_saved journal sector ≡ false

abbrev pub FailsWhole : Content → (name : Bor Text) → EarlyEnd → Type 0
FailsWhole journal name (early.Fault fault) = fault ≡ end.Refused Memory
FailsWhole journal name (early.NotWhole fault) = IsNotWholeIn journal name fault
FailsWhole journal name _ = ⊥

-- True if `bytes` begin with `NORUNDO`, as a journal of any format does.
abbrev pub begins_as_journal : List ℕ → Bool
begins_as_journal bytes = starts_with nat_eq bytes (codes "NORUNDO")

pub record IsUnpackedImage (bytes image : List ℕ) : Type 0 where
  pub journal : Content
  pub sound : IsContent journal
  pub read : bytes ≡ text journal
  pub is : IsImageIn journal image

-- Holds if `image` is the image in the journal that `bytes` encode (if `journal` is true) or `bytes` (if it is false).
abbrev pub IsUnpackedBy : (journal : Bool) → (bytes image : List ℕ) → Type 0
IsUnpackedBy false bytes image = image ≡ bytes
IsUnpackedBy true bytes image = IsUnpackedImage bytes image

abbrev pub IsUnpacked : (bytes image : List ℕ) → Type 0
IsUnpacked bytes image = IsUnpackedBy (begins_as_journal bytes) bytes image

abbrev pub FailsInJournal : (bytes : List ℕ) → (name : Bor Text) → EarlyEnd → Type 0
FailsInJournal bytes name fault =
    (journal : Content) × IsContent journal × (bytes ≡ text journal) × FailsWhole journal name fault

abbrev pub FailsAsJournal : (bytes : List ℕ) → EarlyEnd → Type 0
FailsAsJournal bytes (early.Fault fault) = IsNoJournal bytes fault
FailsAsJournal bytes _ = ⊥

abbrev pub FailsToUnpack : (bytes : List ℕ) → (name : Bor Text) → EarlyEnd → Type 0
FailsToUnpack bytes name fault = FailsAsJournal bytes fault ⊎ FailsInJournal bytes name fault

abbrev pub with_unique_and_status : (unique : Option (List ℕ)) → (status : List ℕ) → Content → Content
with_unique_and_status unique status journal = record journal { unique = unique; status = status }

-- The journal without its unique ID (format 1), which a restore accepts for any chip with the journal's ID and size.
abbrev pub without_unique : Content → Content
without_unique journal = record journal { unique = None }

-- Holds if `old` is a journal that saves the whole chip, and `new` is this journal without its unique ID.
pub record IsForAnyDevice (old new : List ℕ) : Type 0 where
  pub journal : Content
  pub sound : IsContent journal
  pub read : old ≡ text journal
  pub whole : IsWhole journal
  pub encoded : new ≡ text (without_unique journal)

-- Holds if a job uses `new` in place of `old`, the bytes of its file. `replaced` is true with `--replaced-chip`.
abbrev pub AreAdapted : (replaced : Bool) → Task → (old new : List ℕ) → Type 0
AreAdapted replaced (task.Verify file regions) old new = IsUnpacked old new
AreAdapted true (task.Restore journal) old new = IsForAnyDevice old new
AreAdapted replaced _ old new = new ≡ old

abbrev pub FailsToAdapt : (replaced : Bool) → Task → (bytes : List ℕ) → EarlyEnd → Type 0
FailsToAdapt replaced (task.Verify file regions) bytes fault = FailsToUnpack bytes file fault
FailsToAdapt true (task.Restore journal) bytes fault = FailsToUnpack bytes journal fault
FailsToAdapt replaced _ bytes fault = ⊥

-- Holds if `name` is a sealed journal of a whole chip and, if files obey their contract, `image` has the saved bytes.
pub record IsExtracted (before : View) (name : Text) (after : View) (image : Text) : Type 0 where
  pub journal : Content
  pub sealed : IsSealed before name journal
  pub bytes : List ℕ
  pub is : IsImageIn journal bytes
  pub written : is_lawful after ≡ true → after.seen image ≡ Some bytes

-- Holds if `name` is a sealed journal. If `image` names a file, `IsExtracted` must hold for this file, too.
abbrev pub HasDescribed : (before : View) → (name : Text) → (after : View) → (image : Option (Bor Text)) → Type 0
HasDescribed before name after None = IsSealedIn before name
HasDescribed before name after (Some image) = IsExtracted before name after image.now
