use Rattle.std.specs.Prelude.{◌≡◌, Some, true}
use Rattle.nor_files.specs.Files.{View}
use Rattle.nor_files.specs.Files.Failure.{There}
use Rattle.nor_args.specs.declared.job.Operation.{Operation}
use Rattle.nor_console.specs.Stored.{Happens}
use Rattle.nor_console.specs.Tasks.{made_by}
use Rattle.nor_console.specs.declared.messages.Fault.{Fault}
use Rattle.nor_console.specs.declared.messages.Fault.TheVariants as end
use Rattle.nor_console.specs.declared.messages.FileFault.TheVariants as file

-- Holds for file fault 4 of a backup whose file may exist already.
abbrev pub IsExistingBackup : View → Operation → Fault → Type 0
IsExistingBackup view operation (end.File file.Exists of cause) = (operation.is_backup ≡ true)
    × ((made_by operation.task ≡ Some of) × Happens view (There of.now))
IsExistingBackup view operation _ = ⊥
