use Rattle.std.proofs.Common.{◌∙◌, sym, refl, arith}
use Rattle.std.proofs.lemmas.Grind.{common_steps}
use Rattle.nor_plan.specs.SectorSet.{has}
use Rattle.nor_apply.proofs.ProgrammingWhole.{IsTouched, sectors_none, sectors_skip, sectors_more, few_sectors, sectors_failed, does_ended, leaves_ended}
use Rattle.nor_apply.proofs.programs.program_all.Goals.{After-sector}
use Rattle.nor_apply.proofs.programs.program_all.Goals as goal

pub loop-sector-init : goal.loop-sector-init
loop-sector-init g c = sectors_none _

pub loop-sector-preserved-then-not-contains : goal.loop-sector-preserved-then-not-contains
loop-sector-preserved-then-not-contains g c =
    sectors_skip c.loop-sector.invariant (sym c.contains.ensures ∙ c.if-not-contains.true)

touched_here : (g : _) (c : After-sector g)
    → IsTouched (has c.args.touched.now) (g.S.Source.wanted c.args.source.now) c.loop-sector.sector c.sector.result.now
touched_here g c = record {
  is = sym c.contains.ensures ∙ c.if-not-contains.false;
  below = c.loop-sector-test.true;
  shows = c.sector.ensures.bytes;
}

pub loop-sector-preserved : goal.loop-sector-preserved
loop-sector-preserved g c =
    sectors_more c.loop-sector.invariant
    (touched_here g (goal.at.loop-sector-preserved g c).After-sector) c.contains-in-loop-sector.ensures
    c.program_sector.ensures.leaves c.in_ok-more.ensures.does refl refl

pub overflow_add-tally : goal.overflow_add-tally
overflow_add-tally g c =
    let few = few_sectors c.loop-sector.invariant c.loop-sector-test.true in
    omega (arith, few, c.in_ok-more.ensures.does.fewer)

pub overflow_add-tally-in-loop-sector : goal.overflow_add-tally-in-loop-sector
overflow_add-tally-in-loop-sector g c =
    let few = few_sectors c.loop-sector.invariant c.loop-sector-test.true in
    let more = c.in_ok-more.ensures.does in
    omega (arith, few, more.fewer, more.tallies.few)

pub returns-in_err-more : goal.returns-in_err-more
returns-in_err-more g c =
    let here = touched_here g (goal.at.returns-in_err-more g c).After-sector in
    let ends_in_error = sectors_failed c.loop-sector.invariant here c.contains-in-loop-sector.ensures
    c.program_sector.ensures.leaves c.in_err-more.ensures.fails c.in_err-more.ensures.names in
    grind (arith, common_steps, ends_in_error)

pub returns-clause-leaves : goal.returns-clause-leaves
returns-clause-leaves g c = leaves_ended (omega arith) c.loop-sector.invariant

pub returns-clause-does : goal.returns-clause-does
returns-clause-does g c = does_ended (omega arith) c.loop-sector.invariant
