use Rattle.std.proofs.Common.{inr, refl}
use Rattle.serprog_runs.proofs.ReadLayouts.{found_first}
use Rattle.serprog_runs.proofs.chip_layouts.read_layout.Goals as goal

pub returns-in-Ok-clause-ok : goal.returns-in-Ok-clause-ok
returns-in-Ok-clause-ok g c = record {
  first = found_first _ _ _ (g.B.Bus.state c.identify_or_fault.new.bus) c.in_ok-found.found c.ranges_for-ranges.result
      c.in_ok-found.ensures.ok c.ranges_for-ranges.ensures;
  report = c.in-Ok.field-0;
  read = rw (c.expect_reads.ensures, c.as_ref-2.ensures.value) at c.in-Ok.ensures.ok;
}

pub returns-clause-err : goal.returns-clause-err
returns-clause-err g c =
    let e = rw (c.expect_reads.ensures, c.as_ref-2.ensures.value) at c.in-Err.ensures.err in
    inr (record {
      first = found_first _ _ _ (g.B.Bus.state c.identify_or_fault.new.bus) c.in_ok-found.found
          c.ranges_for-ranges.result c.in_ok-found.ensures.ok c.ranges_for-ranges.ensures;
      refusal = c.in-Err.refusal;
      fails = (_, e.0, e.1, e.2);
      is = refl;
    })
