-- The numbers of file faults, and the faults of unreadable arguments, of refused calls and of standard output.
use Rattle.std.specs.Prelude.{◌≡◌, ◌≢◌, ◌⊎◌, ℕ, List, Result, Ok, Err, codes}
use Rattle.std.specs.IoError.{error_kind}
use Rattle.std.specs.declared.io.Error.{Error}
use Rattle.std.specs.declared.io.ErrorKind.TheVariants as Kinds
use Rattle.nor_request.specs.declared.refusal.Refusal.{Refusal}
use Rattle.nor_args.specs.declared.reasons.Reason.TheVariants as because
use Rattle.nor_args.specs.declared.words.UsageFault.TheVariants as usage
use Rattle.nor_console.specs.declared.messages.Fault.{Fault}
use Rattle.nor_console.specs.declared.messages.Fault.TheVariants as end
use Rattle.nor_console.specs.declared.messages.FileFault.{FileFault}
use Rattle.nor_console.specs.declared.messages.FileFault.TheVariants as file
use Rattle.nor_console.specs.declared.causes.Cause.TheVariants as causes

abbrev pub file_number : FileFault → ℕ
file_number file.Read = 1
file_number file.Write = 2
file_number file.Length = 3
file_number file.Exists = 4
file_number file.Taken = 5

abbrev pub IsOfArguments : Error → Fault → Type 0
IsOfArguments error fault = ((error_kind error ≡ Kinds.OutOfMemory) × (fault ≡ end.Usage usage.Memory because.Unsaid))
    ⊎ ((error_kind error ≢ Kinds.OutOfMemory) × (fault ≡ end.NoText))

abbrev pub IsReportedAs : {T : Type 0} → Result T Refusal → Result T Fault → Type 0
IsReportedAs (Ok found) outcome = outcome ≡ Ok found
IsReportedAs (Err refusal) outcome = outcome ≡ Err (end.Refused refusal)

abbrev pub output_name : List ℕ
output_name = codes "standard output"

abbrev pub IsLostOutput : Fault → Type 0
IsLostOutput (end.File file.Write of cause) = (of.now ≡ output_name) × (cause ≡ causes.Unknown)
IsLostOutput fault = ⊥
