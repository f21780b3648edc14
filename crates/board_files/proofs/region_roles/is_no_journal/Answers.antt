use Rattle.std.proofs.Common.{◌∙◌, inl, refl, sym}
use Rattle.board_files.proofs.region_roles.is_no_journal.Goals as goal

pub returns-in-Ok-Some : goal.returns-in-Ok-Some
returns-in-Ok-Some g c = rw c.exists.ensures (inl (
  refl,
  (
    c.in-Ok-Some.start.items,
    rw (c.in-Ok-Some.is, c.in-Ok-Some.field-0-is) at c.read_named.ensures.read,
    rw c.deref.ensures.value at (sym c.is_magic.ensures ∙ c.if-is_magic.true),
  ),
))
