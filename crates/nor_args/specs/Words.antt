-- The job that arguments ask for, or the usage fault that they have.
use Rattle.std.specs.Prelude.{◌≡◌, ◌≢◌, [], List, Some, None, ⊤, ◌⊎◌, drop, false, map, string_bytes, true}
use Rattle.std.specs.Global.{Global}
use Rattle.std.specs.Vec.Iter.{into_iter_items}
use Rattle.std.specs.declared.string.String.{String}
use Rattle.std.specs.declared.vec.IntoIter.{IntoIter}
use Rattle.clap.specs.Words.{Kinds, IsAmong, fault_of, kind_of}
use Rattle.clap.specs.declared.error.Error.{Error}
use Rattle.clap.specs.declared.error.kind.ErrorKind.TheVariants as kind
use Rattle.nor_args.specs.Text.{Text}
use Rattle.nor_args.specs.Options.{hardware_options, options}
use Rattle.nor_args.specs.Given.{Texts, given_by, hardware_given_by, is_on_chip}
use Rattle.nor_args.specs.Faults.{first_fault, operation_faults, usage_faults}
use Rattle.nor_args.specs.Job.{IsAsked, IsHardwareAsked}
use Rattle.nor_args.specs.Reasons.{IsReason}
use Rattle.nor_args.specs.declared.job.HardwareJob.{HardwareJob}
use Rattle.nor_args.specs.declared.job.Job.{Job}
use Rattle.nor_args.specs.declared.reasons.Reason.TheVariants as because
use Rattle.nor_args.specs.declared.reasons.WrongArguments.{WrongArguments}
use Rattle.nor_args.specs.declared.words.UsageFault.{UsageFault}
use Rattle.nor_args.specs.declared.words.UsageFault.TheVariants as why

-- the arguments of a run, without the program's name
abbrev pub arguments_of : IntoIter (String Global) Global → List Text
arguments_of args = map string_bytes (drop 1 (into_iter_items args))

-- the kinds of error with which `clap` may reject the arguments of flashnor; no kind if `clap` accepts the arguments
abbrev pub refusals_of : List Text → Kinds
refusals_of words = fault_of options words

pub record IsJob (words : List Text) (job : Job) : Type 0 where
  pub taken : refusals_of words ≡ []
  pub sound : first_fault (usage_faults (given_by words)) ≡ None
  pub asked : IsAsked (given_by words) job

-- Holds if a run with these arguments may report this fault. Memory may run out with any arguments.
abbrev pub IsFault : List Text → UsageFault → Type 0
IsFault words (why.Words error) = IsAmong (kind_of error) (refusals_of words)
IsFault words why.Memory = ⊤
IsFault words fault = (refusals_of words ≡ []) × (first_fault (usage_faults (given_by words)) ≡ Some fault)

pub record AreWrong (words : List Text) (wrong : WrongArguments) : Type 0 where
  pub fault : IsFault words wrong.fault
  pub reason : IsReason (given_by words) wrong.fault wrong.reason

abbrev pub BecomesFault : Error → UsageFault → Type 0
BecomesFault error fault =
    ((kind_of error ≡ kind.OutOfMemory) × (fault ≡ why.Memory))
    ⊎ ((kind_of error ≢ kind.OutOfMemory) × (fault ≡ why.Words error))

pub record BecomesWrong (error : Error) (wrong : WrongArguments) : Type 0 where
  pub fault : BecomesFault error wrong.fault
  pub reason : wrong.reason ≡ because.Unsaid

pub record IsRefusedArguments (words : List Text) : Type 0 where
  pub no_job : (job : Job) → IsJob words job → ⊥
  pub no_help : IsAmong kind.DisplayHelp (refusals_of words) → ⊥

abbrev pub hardware_refusals_of : (program : Text) → List Text → Kinds
hardware_refusals_of program words = fault_of (hardware_options program) words

pub record IsHardwareJob (program : Text) (words : List Text) (job : HardwareJob) : Type 0 where
  pub taken : hardware_refusals_of program words ≡ []
  pub asked : IsHardwareAsked (hardware_given_by program words) job

-- Holds if the options of a program for hardware ask for no job because of this fault.
abbrev pub HasNoJob : Texts → UsageFault → Type 0
HasNoJob given fault =
    ((is_on_chip given ≡ false) × (first_fault (operation_faults given) ≡ Some fault))
    ⊎ ((is_on_chip given ≡ true) × ((fault ≡ why.NoProgrammer) × (given.programmer ≡ None)))

abbrev pub IsHardwareFault : (program : Text) → List Text → UsageFault → Type 0
IsHardwareFault program words (why.Words error) = IsAmong (kind_of error) (hardware_refusals_of program words)
IsHardwareFault program words why.Memory = ⊤
IsHardwareFault program words fault =
    (hardware_refusals_of program words ≡ []) × HasNoJob (hardware_given_by program words) fault

pub record AreWrongForHardware (program : Text) (words : List Text) (wrong : WrongArguments) : Type 0 where
  pub fault : IsHardwareFault program words wrong.fault
  pub reason : IsReason (hardware_given_by program words) wrong.fault wrong.reason
