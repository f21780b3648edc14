-- The error of the first check of a restore that fails is the verdict on the chip (`IsRestoreVerdict`).
use Rattle.std.proofs.Common.{◌≡◌, ◌<◌, ℕ, Bool, true, arith, rules}
use Rattle.std.specs.Prelude.{◌≢◌, None, Err}
use Rattle.nor_model.specs.Chip.{Chip, is_locked}
use Rattle.nor_journal.specs.Text.{Content}
use Rattle.nor_probe.specs.declared.probes.ProbeFault.TheVariants as Probes
use Rattle.nor_probe.specs.Known.{shown_as}
use Rattle.nor_request.specs.declared.refusal.Refusal.{Refusal}
use Rattle.nor_request.specs.declared.refusal.Refusal.TheVariants.{NoChip, UnknownChip, StatusLocked, OtherChip, OtherUnit, StatusDiffers}
use Rattle.nor_request.specs.Refusal.{refusal_number}
use Rattle.nor_scan.specs.Verdict.{IsNamed}
use Rattle.nor_session.specs.Headline.{IsOfType}
use Rattle.nor_session.specs.Restore.{IsOfOtherDevice, FitsStatus, Choice, NeedsStatusBy, RestoreHolds, checked_in_order, index_in, IsRestoreVerdict, IsRestorable}
use Rattle.nor_session.specs.PrepareRestore.{RestoreJudges, RestoreAccepts}

record IsClear (further : Bool) (choice : Choice) (journal : Content) (chip : Chip) (n : ℕ) : Type 0 where
  there : 0 < n → shown_as further chip.config ≢ Err Probes.NoChip
  named : 1 < n → IsNamed further None chip.config
  kind : 2 < n → IsOfType journal chip.config
  unit : 3 < n → ¬ IsOfOtherDevice journal chip.config
  fixed : 4 < n → FitsStatus journal chip
  writable : 5 < n → is_locked chip.kept ≡ true → ¬ NeedsStatusBy choice journal chip

module _ {further : Bool} {choice : Choice} {journal : Content} {chip : Chip} where
  none_before : {n : ℕ} (other : Refusal) → IsClear further choice journal chip n → index_in checked_in_order (refusal_number other) < n
      → ¬ RestoreHolds further choice journal chip other
  none_before NoChip is before holds = is.there before holds
  none_before (UnknownChip fault) is before holds = let shown = (is.named before).shown in cc
  none_before OtherChip is before holds = holds (is.kind before)
  none_before OtherUnit is before holds = is.unit before holds
  none_before StatusDiffers is before holds = holds (is.fixed before)
  none_before StatusLocked is before holds = is.writable before holds.0 holds.1
  none_before _ is before holds = holds

  first_of : (refusal : Refusal) → IsClear further choice journal chip (index_in checked_in_order (refusal_number refusal))
      → RestoreHolds further choice journal chip refusal → IsRestoreVerdict further choice journal chip refusal
  first_of refusal is holds = record { holds = holds; first = λ other. none_before other is }

place_few : (refusal : Refusal) → index_in checked_in_order (refusal_number refusal) < 7
place_few NoChip = omega arith
place_few _ = omega arith

pub judged_verdict : (further : Bool) (choice : Choice) (journal : Content) (chip : Chip) (refusal : Refusal) → RestoreJudges further choice journal chip refusal
    → IsRestoreVerdict further choice journal chip refusal
judged_verdict further choice journal chip NoChip judged = first_of NoChip (search (rules, arith)) judged
judged_verdict further choice journal chip (UnknownChip fault) judged = first_of (UnknownChip fault) (search (rules, arith)) judged
judged_verdict further choice journal chip OtherChip judged = first_of OtherChip (search (rules, arith)) judged.1
judged_verdict further choice journal chip OtherUnit judged = first_of OtherUnit (search (rules, arith)) judged.2
judged_verdict further choice journal chip StatusDiffers judged = first_of StatusDiffers (search (rules, arith)) judged.3
judged_verdict further choice journal chip StatusLocked judged = first_of StatusLocked (search (rules, arith)) (judged.1, judged.2)
judged_verdict further choice journal chip _ judged = absurd judged

pub accepted_restorable : (further : Bool) (choice : Choice) (journal : Content) (chip : Chip) → RestoreAccepts further choice journal chip
    → IsRestorable further choice journal chip
accepted_restorable further choice journal chip accepts refusal =
    let clear : IsClear further choice journal chip 7 = search (rules, arith) in none_before refusal clear (place_few refusal)
