-- What a host crash may leave of a chip's files and of its journal, and the chip that a later run opens from its files.
use Rattle.std.specs.Prelude.{◌≡◌, ◌⊎◌, ◌∷◌, [], ℕ, Bool, true, false, List, Option, None, Some}
use Rattle.std.specs.Prelude.{IfSome, IsSomeAnd, length, replicate, slice_index, unwrap_or, ⊤}
use Rattle.std.specs.Borrow.{Bor}
use Rattle.nor_model.specs.Bus.{BusState}
use Rattle.nor_model.specs.Chip.{Chip, IsSame, kept_in}
use Rattle.nor_model.specs.declared.config.Config.{Config}
use Rattle.nor_files.specs.Calls.{LeavesNoMore, LeavesOrEmpty}
use Rattle.nor_files.specs.Files.{AreApart, FilesState, Found, Nature, KeepsFile}
use Rattle.nor_journal.specs.Text.{Content as Journal, IsContent, text}
use Rattle.nor_session.specs.Headline.{CanRestore}
use Rattle.nor_args.specs.declared.programmer.Programmer.{Programmer}
use Rattle.nor_args.specs.Text.{Text}
use Rattle.flashnor.specs.Chips.{IsContentOf, OpensChip}
use Rattle.nor_console.specs.Stored.{IsNot, IsRead, LeavesNoMoreOf}
use Rattle.flashnor.specs.declared.chips.Content.{Content}

-- Holds if a later run may find the contents `found` of this file (`None` if it is missing): if a host crash may leave
-- `found`, or if `found` is `None` and the file was missing at first. For an unnamed file, `found` must be `None`.
abbrev pub MayFind : Option (Bor Text) → (was found : Found) → FilesState → Type 0
MayFind None was found files = found ≡ None
MayFind (Some name) was found files = files.may_leave name.now found ⊎ ((was ≡ None) × (found ≡ None))

-- Holds if the bus has no further types, and its chip is idle and has the configuration `setup`, the bytes of `image`
-- (FFh if `None`) and the non-volatile status bits of `status` (zeros if `None`). Also, `image` and `status` have the
-- right lengths.
pub record IsOpenedFrom (image status : Found) (setup : Config) (bus : BusState) : Type 0 where
  pub config : bus.chip.config ≡ setup
  pub whole : IfSome image (λ bytes. length bytes ≡ setup.size)
  pub two : IfSome status (λ bits. length bits ≡ 2)
  pub bytes : (a : ℕ) → bus.chip.bytes a ≡ slice_index (unwrap_or image (replicate setup.size 255)) a
  pub kept : bus.chip.kept ≡ kept_in (unwrap_or status (0 ∷ 0 ∷ []))
  pub idle : bus.chip.busy ≡ 0
  pub further : bus.further ≡ false

abbrev pub LeavesOneJournal : (file : Text) → Journal → FilesState → Type 0
LeavesOneJournal file journal files = (left : Found) → files.may_leave file left → left ≡ Some (text journal)

-- A chip as a run opens it: `content` is what the run reads from the chip's files, and `bus` is a bus to the chip.
pub record Opened (programmer : Programmer) (files : FilesState) : Type 0 where
  pub content : Content
  pub read : IsContentOf files.view programmer content
  pub bus : BusState
  pub opens : OpensChip programmer content bus

-- Holds if `Is` holds for each bus to a chip that a later run may open from files that `MayFind` allows.
abbrev pub LeavesOnly : {programmer : Programmer} {old : FilesState} → Opened programmer old → (BusState → Type 0)
    → FilesState → Type 0
LeavesOnly {programmer} first Is files = (image status : Found) (opened : BusState)
    → MayFind programmer.image first.read.bytes.found image files
    → MayFind programmer.status first.read.status.found status files
    → IsOpenedFrom image status first.bus.chip.config opened → Is opened

-- Holds if a host crash always leaves the same valid journal in `file`, and this journal can restore the original chip
-- (the chip of `first`) from every chip that a later run may open (`LeavesOnly`).
pub record IsRestorableFrom {programmer : Programmer} {old : FilesState} (file : Text) (first : Opened programmer old)
    (files : FilesState) : Type 0 where
  pub journal : Journal
  pub sound : IsContent journal
  pub left : LeavesOneJournal file journal files
  pub back : LeavesOnly first (CanRestore journal first.bus.chip) files

pub record IsNoFileOf (nature : Nature) (programmer : Programmer) (name : Text) : Type 0 where
  pub image : IsNot nature programmer.image name
  pub status : IsNot nature programmer.status name
  pub trace : IsNot nature programmer.trace name

-- Holds if no file is named, if the file was missing, or if a host crash can leave the file only with its old length.
abbrev pub LeavesAsLong : Option (Bor Text) → (old new : FilesState) → Type 0
LeavesAsLong None old new = ⊤
LeavesAsLong (Some name) old new = (had : List ℕ) → old.view.seen name.now ≡ Some had → (left : Found)
    → new.may_leave name.now left → IsSomeAnd left (λ has. length has ≡ length had)

-- Holds if the original chip isn't lost after a change with its journal in the new file `file`: a later run opens the
-- original chip (`same`), or the journal can restore it (`back`). The other fields say more.
pub record LeavesOriginalRestorable (programmer : Programmer) (file : Text) (old new : FilesState) : Type 0 where
  pub missing : old.view.seen file ≡ None
  pub others : (name : Text) → IsNoFileOf old.view.nature programmer name → AreApart old.view.nature file name
      → KeepsFile name old new
  pub image : LeavesAsLong programmer.image old new
  pub status : LeavesAsLong programmer.status old new
  pub first : Opened programmer old
  pub sealed : Bool
  pub same : sealed ≡ false → LeavesOnly first (λ opened. IsSame first.bus.chip opened.chip) new
  pub back : sealed ≡ true → IsRestorableFrom file first new

-- Holds if a host crash can leave of each file only what it could leave before. There are two exceptions: the trace may
-- have any contents, and a journal's file that was missing may be empty.
pub record LeavesAll (programmer : Programmer) (file : Text) (old new : FilesState) : Type 0 where
  pub image : LeavesNoMoreOf programmer.image old new
  pub status : LeavesNoMoreOf programmer.status old new
  pub others : (name : Text) → IsNot old.view.nature programmer.trace name → AreApart old.view.nature file name
      → LeavesNoMore name old new
  pub empty : LeavesOrEmpty file old new

-- Holds if only what `LeavesAll` allows changed, or if the original chip isn't lost (`LeavesOriginalRestorable`).
abbrev pub KeepsOriginalFiles : Programmer → (file : Text) → (old new : FilesState) → Type 0
KeepsOriginalFiles programmer file old new =
    LeavesAll programmer file old new ⊎ LeavesOriginalRestorable programmer file old new

-- Holds if a host crash can leave of each file, except the trace, only what it could leave before.
pub record LeavesSources (programmer : Programmer) (file : Text) (old new : FilesState) : Type 0 where
  pub image : LeavesNoMoreOf programmer.image old new
  pub status : LeavesNoMoreOf programmer.status old new
  pub journal : LeavesNoMore file old new
  pub others : (name : Text) → IsNot old.view.nature programmer.trace name → LeavesNoMore name old new

-- Holds if the journal in `file` can restore each chip that it could restore before, from every chip that a later run
-- may open. The other fields say more.
pub record LeavesRestorable (programmer : Programmer) (file : Text) (old new : FilesState) : Type 0 where
  pub others : (name : Text) → IsNoFileOf old.view.nature programmer name → KeepsFile name old new
  pub image : LeavesAsLong programmer.image old new
  pub status : LeavesAsLong programmer.status old new
  pub found : Opened programmer old
  pub journal : Journal
  pub sound : IsContent journal
  pub read : IsRead old.view file 16793662 (text journal)
  pub stays : KeepsFile file old new
  pub back : (first : Chip) → CanRestore journal first found.bus → LeavesOnly found (CanRestore journal first) new

-- Holds if only what `LeavesSources` allows changed, or if the journal in `file` can still restore each chip that it
-- could restore before (`LeavesRestorable`).
abbrev pub KeepsRestorable : Programmer → (file : Text) → (old new : FilesState) → Type 0
KeepsRestorable programmer file old new =
    LeavesSources programmer file old new ⊎ LeavesRestorable programmer file old new
