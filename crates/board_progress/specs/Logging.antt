-- The log of a run (`-o`): which files it may overwrite, and that starting it changes no other file.
use Rattle.std.specs.Prelude.{◌≡◌, ℕ, List, [], Option, None, Some, codes, true}
use Rattle.std.specs.Borrow.{Bor}
use Rattle.nor_files.specs.Files.{AreApart, AreUntouched, FilesState, Name, OthersStay, View, is_lawful}
use Rattle.nor_args.specs.Text.{Text}
use Rattle.nor_console.specs.Stored.{IsRead}
use Rattle.nor_console.specs.declared.messages.Fault.{Fault}
use Rattle.nor_console.specs.declared.causes.Cause.TheVariants as causes
use Rattle.nor_console.specs.declared.messages.Fault.TheVariants as end
use Rattle.nor_console.specs.declared.messages.FileFault.TheVariants as file

pub record BeginsNoLog (start : List ℕ) : Type 0 where
  pub some : ¬ (start ≡ [])
  pub other : ¬ (start ≡ codes "Log of flashnor-serprog")

pub record IsExistingLog (view : View) (name : Bor Text) (fault : Fault) : Type 0 where
  pub start : List ℕ
  pub read : IsRead view name.now 23 start
  pub begins : BeginsNoLog start
  pub is : fault ≡ end.File file.Exists name causes.Unknown

-- Holds if no file except the log was changed. With a log, this needs to hold only if the files obey their contract.
abbrev pub CreatesLog : Option (Bor Text) → (old new : FilesState) → Type 0
CreatesLog None old new = AreUntouched old new
CreatesLog (Some name) old new = (new.view.nature ≡ old.view.nature)
    × (is_lawful old.view ≡ true → OthersStay name.now old new)

-- Holds if reads of every file except the log return the same as before. With a log, this needs to hold only if files
-- obey their contract.
abbrev pub StayButLog : Option (Bor Text) → (old new : View) → Type 0
StayButLog None old new = new ≡ old
StayButLog (Some name) old new = (new.nature ≡ old.nature)
    × (is_lawful old ≡ true → (other : Name) → AreApart old.nature name.now other
    → (new.out other ≡ old.out other) × (new.seen other ≡ old.seen other))
