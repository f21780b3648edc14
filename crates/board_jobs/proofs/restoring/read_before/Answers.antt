use Rattle.std.proofs.Common.{inr, refl}
use Rattle.nor_request.specs.declared.refusal.Refusal.TheVariants.{OtherChip, Stopped}
use Rattle.board_jobs.proofs.restoring.read_before.Goals as goal

pub returns-then-not-is_of_type-clause-err : goal.returns-then-not-is_of_type-clause-err
returns-then-not-is_of_type-clause-err g c = inr (
  OtherChip,
  record {
    chip = c.in_ok-found.found;
    found = g.B.Bus.state c.identify_or_fault.new.bus;
    identified = c.in_ok-found.ensures.ok;
    fails = (refl, rw c.if-not-is_of_type.true at c.is_of_type.ensures);
  },
  refl,
)

pub returns-in-Ok-clause-ok : goal.returns-in-Ok-clause-ok
returns-in-Ok-clause-ok g c = record {
  chip = c.in_ok-found.found;
  found = g.B.Bus.state c.identify_or_fault.new.bus;
  identified = c.in_ok-found.ensures.ok;
  kind = rw c.if-not-is_of_type.false at c.is_of_type.ensures;
  read = rw c.expect_reads.ensures at c.in-Ok.ensures.ok;
}

pub returns-in-Err-clause-err : goal.returns-in-Err-clause-err
returns-in-Err-clause-err g c = inr (
  Stopped,
  record {
    chip = c.in_ok-found.found;
    found = g.B.Bus.state c.identify_or_fault.new.bus;
    identified = c.in_ok-found.ensures.ok;
    fails = rw c.expect_reads.ensures at c.in-Err.ensures.err;
  },
  refl,
)
