use Rattle.std.proofs.Common.{◌≡◌, ◌≤◌, ◌∙◌, ℕ, Bool, true, List, refl, arith}
use Rattle.std.specs.Prelude.{◌≢◌, Result, Ok, Err, Some, None, IsOk}
use Rattle.nor_model.specs.declared.config.Config.{Config}
use Rattle.nor_model.specs.Chip.{Chip, IsSame}
use Rattle.nor_model.specs.Bus.{BusState}
use Rattle.nor_driver.specs.Reads.{unique_of}
use Rattle.nor_journal.specs.Text.{Content}
use Rattle.nor_probe.specs.declared.table.Part.{Part}
use Rattle.nor_probe.specs.declared.probes.ProbeFault.{ProbeFault}
use Rattle.nor_probe.specs.declared.probes.ProbeFault.TheVariants as Probes
use Rattle.nor_probe.specs.declared.probes.Found.{Found}
use Rattle.nor_probe.specs.Known.{shown_as, IsKnown, IsModelled}
use Rattle.nor_probe.specs.Replied.{ProbeEndsAt}
use Rattle.nor_probe.specs.Found.{BlamesName, ProbeErrors, IsConfigOf}
use Rattle.nor_request.specs.declared.refusal.Refusal.{Refusal}
use Rattle.nor_request.specs.declared.refusal.Refusal.TheVariants.{OtherUnit, StatusDiffers, Stopped, Timeout}
use Rattle.nor_request.specs.Refusal.{of_probe}
use Rattle.nor_scan.specs.Identity.{most_identity}
use Rattle.nor_scan.specs.Verdict.{IsNamed}
use Rattle.nor_session.specs.Headline.{IsOfType}
use Rattle.nor_session.specs.Restore.{Choice, IsOfOtherDevice}
use Rattle.nor_session.specs.PrepareRestore.{RestoreJudges, IsDeviceRefusal, PrepareErrors}
use Rattle.nor_session.specs.Restore.{IsOfTypeFound}

named_by : {further : Bool} (chip : Chip) (outcome : Result Part ProbeFault) → shown_as further chip.config ≡ outcome → IsOk outcome
    → IsNamed further None chip.config
named_by chip (Ok part) is ok = record { part = part; shown = is; wanted = tt }
named_by chip (Err fault) is ok = absurd cc

pub named_known : {further : Bool} (chip : Chip) → IsKnown further chip.config → IsNamed further None chip.config
named_known {further = further} chip known = named_by chip (shown_as further chip.config) refl known.shown

pub other_unit : (journal : Content) (config : Config) (unique : List ℕ) → journal.unique ≡ Some unique → unique ≢ unique_of config → IsOfOtherDevice journal config
other_unit journal config unique is other = rw is other

pub no_unit : (journal : Content) (config : Config) → journal.unique ≡ None → ¬ IsOfOtherDevice journal config
no_unit journal config is other = rw is at other

pub same_unit : (journal : Content) (config : Config) (unique : List ℕ) → journal.unique ≡ Some unique → unique ≡ unique_of config → ¬ IsOfOtherDevice journal config
same_unit journal config unique is same other = (rw is at other) same

pub probe_prepare_errors : (choice : Choice) (journal : Content) (old new : BusState) (fault : ProbeFault) → BlamesName None fault → ProbeEndsAt new.history fault
    → (old.honest ≡ true → ProbeErrors None old new fault) → PrepareErrors choice journal most_identity old new (of_probe fault)
probe_prepare_errors choice journal old new Probes.OtherName blames last errors = absurd blames
probe_prepare_errors choice journal old new Probes.Stopped blames last errors = record {
  last = last;
  ran_out = λ honest punctual. let out = (errors honest).1 punctual in
      record { none_left = out.none_left; below = omega (arith, out.below) };
}
probe_prepare_errors choice journal old new Probes.Timeout blames last errors = (refl, last, errors)
probe_prepare_errors choice journal old new _ blames last errors = search arith

pub errors_more : (choice : Choice) (journal : Content) (few most : ℕ) (old new : BusState) (refusal : Refusal) → few ≤ most
    → PrepareErrors choice journal few old new refusal → PrepareErrors choice journal most old new refusal
errors_more choice journal few most old new Stopped fits errors = record {
  last = errors.last;
  ran_out = λ honest punctual. let out = errors.ran_out honest punctual in
      record { none_left = out.none_left; below = omega arith };
}
errors_more choice journal few most old new (Timeout address) fits errors = errors
errors_more choice journal few most old new _ fits errors = errors

pub device_errors : (choice : Choice) (journal : Content) (most : ℕ) (old new : BusState) (refusal : Refusal) → IsDeviceRefusal refusal → (old.honest ≡ true → IsSame old.chip new.chip)
    → (IsModelled old → RestoreJudges old.further choice journal old.chip refusal) → PrepareErrors choice journal most old new refusal
device_errors choice journal most old new OtherUnit is same verdict = record { judged = refl; same = same; verdict = verdict }
device_errors choice journal most old new StatusDiffers is same verdict = record { judged = refl; same = same; verdict = verdict }
device_errors choice journal most old new _ is same verdict = absurd is

pub kind_of : {further : Bool} {journal : Content} {found : Found} {config : Config} → IsConfigOf further config found
    → IsOfTypeFound journal found → IsOfType journal config
kind_of is kind = record { id = kind.id ∙ is.id; size = kind.size ∙ is.size }
