use Rattle.std.proofs.lemmas.Result.{IfErr-weaker, IfOk-weaker}
use Rattle.nor_console.proofs.Included.{layout_fails, layout_read}
use Rattle.nor_console.proofs.requests.read_layout.Goals as goal

pub returns-clause-ok : goal.returns-clause-ok
returns-clause-ok g c = IfOk-weaker c.parse_layout-2.result _ _
    (layout_read _ _ c.args.regions c.in-Some.name _ c.in-Some.is c.in_ok-text.ensures.ok)
    (rw c.deref.ensures.value at c.parse_layout-2.ensures.ok)

pub returns-clause-err : goal.returns-clause-err
returns-clause-err g c = IfErr-weaker c.parse_layout-2.result _ _
    (layout_fails _ _ c.args.regions c.in-Some.name _ c.in-Some.is c.in_ok-text.ensures.ok)
    (rw c.deref.ensures.value at c.parse_layout-2.ensures.err)
