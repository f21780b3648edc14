-- Lemmas: the job or the fault of the options is also the job or the fault of the arguments that contain these options.
use Rattle.std.proofs.Common.{◌≡◌, arith, Bool, false, List, [], Some, None, Result, Ok, Err, inl, inr, refl, subst, sym}
use Rattle.std.specs.Prelude.{MatchResult}
use Rattle.clap.specs.declared.error.Error.{Error}
use Rattle.nor_args.specs.Text.{Text}
use Rattle.nor_args.specs.Given.{Texts, given_by, hardware_given_by}
use Rattle.nor_args.specs.Faults.{first_fault, operation_faults, usage_faults}
use Rattle.nor_args.specs.Job.{IsAsked, IsHardwareAsked, IsWrongForHardware}
use Rattle.nor_args.specs.Reasons.{IsReason}
use Rattle.nor_args.specs.Words.{AreWrong, AreWrongForHardware, HasNoJob, IsFault, IsHardwareFault, IsHardwareJob}
use Rattle.nor_args.specs.Words.{IsJob, hardware_refusals_of, refusals_of}
use Rattle.nor_args.specs.declared.job.HardwareJob.{HardwareJob}
use Rattle.nor_args.specs.declared.job.Job.{Job}
use Rattle.nor_args.specs.declared.reasons.WrongArguments.{WrongArguments}
use Rattle.nor_args.specs.declared.words.UsageFault.{UsageFault}
use Rattle.nor_args.specs.declared.words.UsageFault.TheVariants as why
use Rattle.nor_args.proofs.Sound.{cases}

not-words : (a b c d e f g h : Bool) (error : Error) → first_fault (cases a b c d e f g h) ≡ Some (why.Words error) → ⊥
not-words a b c d e f g h error is = grind arith

words-apart : {error : Error} → why.Words error ≡ why.NoProgrammer → ⊥
words-apart is = grind arith

fault-returned : (words : List Text) (fault : UsageFault) → refusals_of words ≡ []
    → first_fault (usage_faults (given_by words)) ≡ Some fault → IsFault words fault
fault-returned words (why.Words error) taken h = absurd (not-words _ _ _ _ _ _ _ _ error h)
fault-returned words _ taken h = search

pub asked-by_words : (words : List Text) (given : Texts) (r : Result Job UsageFault) → refusals_of words ≡ []
    → given ≡ given_by words
    → MatchResult r (λ job. (first_fault (usage_faults given) ≡ None) × IsAsked given job)
    (λ fault. first_fault (usage_faults given) ≡ Some fault)
    → MatchResult r (IsJob words) (IsFault words)
asked-by_words words given r taken same h = grind (arith, fault-returned)

pub wrong-by_words : (words : List Text) (given : Texts) (fault : UsageFault) (wrong : WrongArguments)
    → refusals_of words ≡ [] → given ≡ given_by words → first_fault (usage_faults given) ≡ Some fault
    → wrong.fault ≡ fault → IsReason given fault wrong.reason → AreWrong words wrong
wrong-by_words words given fault wrong taken same is named because =
    let asked = asked-by_words words given (Err fault) taken same is in
    let said = subst (λ (g : Texts). IsReason g fault wrong.reason) same because in record {
      fault = subst (IsFault words) (sym named) asked;
      reason = subst (λ (f : UsageFault). IsReason (given_by words) f wrong.reason) (sym named) said;
    }

no-job : (given : Texts) (wrong : WrongArguments) → IsWrongForHardware given wrong
    → HasNoJob given wrong.fault × IsReason given wrong.fault wrong.reason
no-job given wrong (inl checked) = (inl (checked.0, checked.1.fault), checked.1.reason)
no-job given wrong (inr other) =
    (inr (other.0, (other.1.fault, other.1.lacks)), rw (other.1.fault, other.1.reason) refl)

no-words : (given : Texts) (error : Error) → first_fault (operation_faults given) ≡ Some (why.Words error) → ⊥
no-words given error is = not-words false false _ _ _ _ _ _ error is

hardware_fault-returned : (program : Text) (words : List Text) (fault : UsageFault)
    → hardware_refusals_of program words ≡ [] → HasNoJob (hardware_given_by program words) fault
    → IsHardwareFault program words fault
hardware_fault-returned program words (why.Words error) taken (inl checked) =
    absurd (no-words (hardware_given_by program words) error checked.1)
hardware_fault-returned program words (why.Words error) taken (inr other) = absurd (words-apart other.1.0)
hardware_fault-returned program words _ taken h = search

pub hardware_asked-by_words : (program : Text) (words : List Text) (given : Texts)
    (r : Result HardwareJob WrongArguments)
    → hardware_refusals_of program words ≡ [] → given ≡ hardware_given_by program words
    → MatchResult r (IsHardwareAsked given) (IsWrongForHardware given)
    → MatchResult r (IsHardwareJob program words) (AreWrongForHardware program words)
hardware_asked-by_words program words given (Ok job) taken same h =
    record { taken = taken; asked = subst (λ (g : Texts). IsHardwareAsked g job) same h }
hardware_asked-by_words program words given (Err wrong) taken same h =
    let has = no-job (hardware_given_by program words) wrong (subst (λ (g : Texts). IsWrongForHardware g wrong) same h) in
    record { fault = hardware_fault-returned program words wrong.fault taken has.0; reason = has.1 }
