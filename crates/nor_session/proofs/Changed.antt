-- Bounds on the operations of the changes, and the result of the changes and their check.
use Rattle.std.proofs.Common.{◌≡◌, ◌<◌, ◌≤◌, ◌/◌, ◌||◌, ◌∙◌, ℕ, Bool, true, false, sym, subst, arith}
use Rattle.std.specs.Prelude.{◌≢◌}
use Rattle.std.proofs.lemmas.Bool.Decides.{nat_tests}
use Rattle.nor_model.specs.Guard.{code_of}
use Rattle.nor_model.specs.Chip.{kept_in}
use Rattle.nor_model.specs.Status.{bytes_of}
use Rattle.nor_model.specs.declared.config.Config.{Config}
use Rattle.nor_model.specs.Bus.{BusState}
use Rattle.nor_model.proofs.Sizes.{sized_bounds}
use Rattle.nor_driver.specs.OnlyReads.{Rested}
use Rattle.nor_driver.proofs.Limits.{exactly_same}
use Rattle.nor_driver.proofs.Polled.{adds_then}
use Rattle.nor_geometry.proofs.Below.{count_below-most}
use Rattle.nor_plan.specs.Planned.{fewest_erases, IsLeastLength}
use Rattle.nor_plan.proofs.Fewest.{fewest_least}
use Rattle.nor_apply.specs.declared.changes.Changes.{Changes}
use Rattle.nor_apply.specs.declared.changes.Work.{Work}
use Rattle.nor_session.specs.Checking.{CanCheck}
use Rattle.nor_session.proofs.Protected.{coded_later}
use Rattle.nor_apply.specs.Applying.{touched_in, raised_in, status_writes, writes_code, most_applied, HasApplied, LeavesApply, DoesApply}
use Rattle.nor_apply.proofs.ApplyingInTurn.{raised_few}
use Rattle.nor_session.specs.Changing.{touched_count, HasBytes, DoesCheck, DoesChange}

pub two_writes : (changes : Changes) → status_writes changes ≤ 2
two_writes changes = grind (arith, nat_tests)

pub no_write : (changes : Changes) → ¬ ((changes.unlock || writes_code changes) ≡ true) → status_writes changes ≤ 0
no_write changes never = grind (arith, nat_tests)

pub write_once : (changes : Changes) → changes.unlock ≡ false → status_writes changes ≤ 1
write_once changes off = grind (arith, nat_tests)

pub writes_other : (changes : Changes) → changes.unlock ≡ false → (changes.unlock || writes_code changes) ≡ true
    → code_of (kept_in (bytes_of changes.status)) ≢ changes.code
writes_other changes off writes same = grind (arith, nat_tests)

pub touched_most : (changes : Changes) → touched_count changes ≤ 4096
touched_most changes = count_below-most 4096 (touched_in changes)

pub fits_work : (changes : Changes) (wanted : ℕ → ℕ) (old new : BusState) (work : Work) → ((s : ℕ) → raised_in changes s ≡ true → touched_in changes s ≡ true)
    → DoesApply changes wanted old new work → work.transactions ≤ most_applied 4096
fits_work changes wanted old new work inside does =
    let most = touched_most changes in let raised = raised_few changes inside in let writes = two_writes changes in
    omega arith

pub fewest_at : (config : Config) (sectors : ℕ → Bool) (count : ℕ) → ((s : ℕ) → sectors s ≡ true → s < config.size / 4096)
    → count ≡ fewest_erases config.kinds (config.size / 4096) sectors → IsLeastLength config.kinds (config.size / 4096) sectors count
fewest_at config sectors count below is =
    let most = (sized_bounds config).small in
    subst (IsLeastLength config.kinds (config.size / 4096) sectors) (sym is) (fewest_least config.kinds (config.size / 4096) sectors (omega arith) below)

rest_applied : (changes : Changes) (wanted : ℕ → ℕ) (old mid new : BusState) → HasApplied changes wanted old mid → Rested mid new → HasApplied changes wanted old new
rest_applied changes wanted old mid new applied rested =
    let same = rested.unchanged.same in
    let kept = same.kept ∙ applied.kept in
    grind (arith, same.bytes, rested.unchanged.worn)

pub checked : (changes : Changes) (wanted : ℕ → ℕ) (verify : Bool) (old mid new : BusState) (written work : Work) → ((s : ℕ) → raised_in changes s ≡ true → touched_in changes s ≡ true)
    → LeavesApply changes wanted old mid → DoesApply changes wanted old mid written → DoesCheck changes wanted verify written mid new work
    → DoesChange changes wanted verify old new work
checked changes wanted verify old mid new written work inside leaves does checking =
    let raised = raised_few changes inside in
    let same_honest = leaves.spends.nature.honest in
    let applied = rest_applied changes wanted old mid new in
    let read : verify ≡ true → old.honest ≡ true → CanCheck (touched_in changes) old.chip
    → HasBytes (touched_in changes) wanted new.chip = λ verifies honest can a hit.
    let still_can : CanCheck (touched_in changes) mid.chip = record {
      idle = does.tallies.idle honest can.idle;
      inside = λ s is. rw (leaves.spends.nature.config honest) (can.inside s is);
    } in
    (checking.rested (same_honest ∙ honest)).unchanged.same.bytes a ∙ checking.same verifies (same_honest ∙ honest) still_can a hit in
    let tallies = does.tallies in let first = does.in_order in
    record {
      erases = checking.erases ∙ does.erases;
      fewer_erases = omega (arith, raised);
      fewer_programs = omega arith;
      few = omega (arith, raised);
      added =
          let both = adds_then tallies.added checking.added in
          record {
            all = omega (arith, both.all, checking.transactions);
            few_others = omega (arith, both.few_others, checking.transactions, checking.erases, checking.programs);
          };
      least = omega arith;
      exactly = rw (checking.erases, checking.programs) (exactly_same checking.unsent does.exactly);
      in_order = record {
        erasing = first.erasing;
        later = first.later;
        added = checking.unsent ∙ first.added;
        each = first.each;
        unprogrammed = first.unprogrammed;
        unerased = first.unerased;
      };
      protects = coded_later does.protects checking.unsent;
      polled_ready = grind (arith, tallies.polled_ready);
      sent = grind (arith, same_honest, leaves.spends.nature.punctual, tallies.sent);
      unsent = grind (arith, tallies.unsent);
      done = grind (arith, same_honest, applied);
      programs = grind arith;
      checked = read;
    }
