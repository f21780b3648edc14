-- Lemmas: a successful parse returns the values that clap's specification defines, and a failed parse is a usage fault.
use Rattle.std.proofs.Common.{◌≡◌, [], true, List, Ok, Err, inl, inr, refl}
use Rattle.clap.specs.Words.{App, FailsBy, HasMatchesOf, fault_of, found_of, is_simple, is_simple_and_free, matches_of}
use Rattle.clap.specs.Words.{rows_of}
use Rattle.clap.specs.declared.error.Error.{Error}
use Rattle.clap.specs.declared.parser.matches.ArgMatches.{ArgMatches}
use Rattle.clap.proofs.OnLiterals.{clap_on_literals}
use Rattle.nor_args.specs.Text.{Text}
use Rattle.nor_args.specs.Options.{hardware_options, options}
use Rattle.nor_args.specs.Given.{Texts, given_by, hardware_given_by}
use Rattle.nor_args.specs.Reasons.{IsReason}
use Rattle.nor_args.specs.Words.{AreWrong, AreWrongForHardware, BecomesFault, BecomesWrong, IsFault, IsHardwareFault}
use Rattle.nor_args.specs.declared.reasons.Reason.{Reason}
use Rattle.nor_args.specs.declared.reasons.Reason.TheVariants as because
use Rattle.nor_args.specs.declared.reasons.WrongArguments.{WrongArguments}
use Rattle.nor_args.specs.declared.words.UsageFault.{UsageFault}

pub options_are_free : is_simple_and_free options ≡ true
unfolding clap_on_literals
options_are_free = refl

pub options_are_simple : is_simple options ≡ true
unfolding clap_on_literals
options_are_simple = refl

pub hardware_options_are_free : (program : Text) → is_simple_and_free (hardware_options program) ≡ true
unfolding clap_on_literals
hardware_options_are_free program = refl

pub hardware_options_are_simple : (program : Text) → is_simple (hardware_options program) ≡ true
unfolding clap_on_literals
hardware_options_are_simple program = refl

module _ (app own : App) (same : app ≡ own) (words : List Text) (m : ArgMatches) where
  pub none-refused : is_simple_and_free own ≡ true → (is_simple_and_free app ≡ true → FailsBy (fault_of app words) (Ok m))
      → fault_of own words ≡ []
  none-refused free fails = let refuses = rw same at fails in refuses free

  pub rows-taken : is_simple own ≡ true → HasMatchesOf app words m → rows_of (found_of m) ≡ matches_of own words
  rows-taken simple matches = let rows = rw same at matches in (rows simple).0

refused : (words : List Text) (app : App) → app ≡ options → (error : Error) (fault : UsageFault)
    → (is_simple_and_free app ≡ true → FailsBy {T = ArgMatches} (fault_of app words) (Err error))
    → BecomesFault error fault → IsFault words fault
refused words app same error fault fails (inl memory) = rw memory.1 tt
refused words app same error fault fails (inr other) =
    let free = (rw same at fails) options_are_free in rw other.1 (elim free [
      | inl memory ↦ absurd (other.0 memory)
      | inr among ↦ among
    ])

unsaid : (given : Texts) (error : Error) (fault : UsageFault) (reason : Reason) → BecomesFault error fault
    → reason ≡ because.Unsaid → IsReason given fault reason
unsaid given error fault reason (inl memory) is = rw memory.1 is
unsaid given error fault reason (inr other) is = rw other.1 is

pub refused-wrong : (words : List Text) (app : App) → app ≡ options → (error : Error) (wrong : WrongArguments)
    → (is_simple_and_free app ≡ true → FailsBy {T = ArgMatches} (fault_of app words) (Err error))
    → BecomesWrong error wrong → AreWrong words wrong
refused-wrong words app same error wrong fails becomes = record {
  fault = refused words app same error wrong.fault fails becomes.fault;
  reason = unsaid (given_by words) error wrong.fault wrong.reason becomes.fault becomes.reason;
}

hardware-refused : (program : Text) (app : App) → app ≡ hardware_options program → (words : List Text)
    (error : Error) (fault : UsageFault)
    → (is_simple_and_free app ≡ true → FailsBy {T = ArgMatches} (fault_of app words) (Err error))
    → BecomesFault error fault → IsHardwareFault program words fault
hardware-refused program app same words error fault fails (inl memory) = rw memory.1 tt
hardware-refused program app same words error fault fails (inr other) =
    let free = (rw same at fails) (hardware_options_are_free program) in rw other.1 (elim free [
      | inl memory ↦ absurd (other.0 memory)
      | inr among ↦ among
    ])

pub hardware-wrong : (program : Text) (app : App) → app ≡ hardware_options program → (words : List Text)
    (error : Error) (wrong : WrongArguments)
    → (is_simple_and_free app ≡ true → FailsBy {T = ArgMatches} (fault_of app words) (Err error))
    → BecomesWrong error wrong → AreWrongForHardware program words wrong
hardware-wrong program app same words error wrong fails becomes = record {
  fault = hardware-refused program app same words error wrong.fault fails becomes.fault;
  reason = unsaid (hardware_given_by program words) error wrong.fault wrong.reason becomes.fault becomes.reason;
}
