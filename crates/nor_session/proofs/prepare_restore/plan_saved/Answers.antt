use Rattle.std.proofs.Common.{◌≡◌, ◌∙◌, ℕ, length, subst, arith, rules}
use Rattle.nor_driver.proofs.RestsInTurn.{has_only_read-one}
use Rattle.nor_plan.specs.Plan.{IsPlan}
use Rattle.nor_session.proofs.prepare_restore.plan_saved.Goals as goal

pub returns-clause-plans : goal.returns-clause-plans
returns-clause-plans g c =
    let long : length c.read_sector.new.bytes ≡ 4096 = omega arith in
    record {
      small = λ k. search rules;
      read = c.in_ok-read_sector.ensures.does;
      whole = long;
      honest_reads = has_only_read-one c.read_sector.ensures.leaves c.in_ok-read_sector.ensures.does.read
          (λ ready. c.read_sector.ensures.polled_ready ∙ ready);
      needed = c.of.ensures.needed;
      planned = λ content wanted shown targets. subst (λ (n : ℕ). IsPlan content wanted n c.of.result) long (c.of.ensures.anywhere content wanted shown targets);
    }
