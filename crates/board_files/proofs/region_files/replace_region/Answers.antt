use Rattle.std.proofs.Common.{arith}
use Rattle.std.proofs.lemmas.Grind.{common_steps}
use Rattle.board_files.proofs.region_files.replace_region.Goals as goal

pub returns-clause-ok : goal.returns-clause-ok
returns-clause-ok g c = record {
  content = c.in_ok-content.content.items;
  read = c.in_ok-content.ensures.ok;
  fits = omega (arith, c.if-end-first.false, c.if-len-end.false, c.len.ensures);
  inside = omega (arith, c.if-bytes-end.false);
  same = rw (c.copy_from_slice.ensures.after, c.deref.ensures.value)
      (grind (arith, common_steps, c.if-end-first.false));
}
