-- Lemmas: a run ends with the help or the version before its job only if its arguments ask for that.
use Rattle.std.proofs.Common.{◌≡◌, arith, Bool, false, List, Some, inl, inr, subst}
use Rattle.clap.specs.Words.{IsAmong}
use Rattle.clap.specs.declared.error.Error.{Error}
use Rattle.nor_args.specs.Text.{Text}
use Rattle.nor_args.specs.Faults.{first_fault, operation_faults}
use Rattle.nor_args.specs.Given.{Texts}
use Rattle.nor_args.specs.Job.{IsWrongOperation}
use Rattle.nor_args.specs.Words.{AreWrongForHardware, IsHardwareFault, hardware_refusals_of}
use Rattle.nor_args.specs.declared.reasons.Reason.{Reason}
use Rattle.nor_args.specs.declared.reasons.WrongArguments.{WrongArguments}
use Rattle.nor_args.specs.declared.words.UsageFault.{UsageFault}
use Rattle.nor_args.specs.declared.words.UsageFault.TheVariants as usage
use Rattle.nor_args.proofs.Sound.{cases}
use Rattle.nor_console.specs.declared.messages.Fault.TheVariants as end
use Rattle.serprog_runs.specs.Run.{ArgumentsAskForHelp, AsksForHelp, program}
use Rattle.serprog_runs.specs.declared.run_fault.RunFault.TheVariants as run_fault

asks-help : (words : List Text) (fault : UsageFault) (reason : Reason) → IsHardwareFault program words fault
    → AsksForHelp (run_fault.Fault (end.Usage fault reason)) → ArgumentsAskForHelp words
asks-help words (usage.Words error) reason may (inl is) =
    inl (subst (λ k. IsAmong k (hardware_refusals_of program words)) is may)
asks-help words (usage.Words error) reason may (inr is) =
    inr (subst (λ k. IsAmong k (hardware_refusals_of program words)) is may)
asks-help words _ reason may (inl is) = absurd is
asks-help words _ reason may (inr is) = absurd is

pub words-ask : (words : List Text) (wrong : WrongArguments) → AreWrongForHardware program words wrong
    → AsksForHelp (run_fault.Fault (end.Usage wrong.fault wrong.reason)) → ArgumentsAskForHelp words
words-ask words wrong may is = asks-help words wrong.fault wrong.reason may.fault is

not-words : (c d e f g h : Bool) (error : Error) → first_fault (cases false false c d e f g h) ≡ Some (usage.Words error)
    → ⊥
not-words c d e f g h error is = grind arith

no-help : (given : Texts) (fault : UsageFault) (reason : Reason) → first_fault (operation_faults given) ≡ Some fault
    → AsksForHelp (run_fault.Fault (end.Usage fault reason)) → ⊥
no-help given (usage.Words error) reason is help = not-words _ _ _ _ _ _ error is
no-help given _ reason is (inl help) = help
no-help given _ reason is (inr help) = help

pub options-ask : (given : Texts) (wrong : WrongArguments) → IsWrongOperation given wrong
    → AsksForHelp (run_fault.Fault (end.Usage wrong.fault wrong.reason)) → ⊥
options-ask given wrong is help = no-help given wrong.fault wrong.reason is.fault help
