use Rattle.std.proofs.Common.{AllPairs, Some, arith, subst}
use Rattle.std.proofs.lemmas.List.{take_all}
use Rattle.std.proofs.lemmas.Result.{err_from_is_err_and}
use Rattle.nor_console.specs.Roles.{FailsApart}
use Rattle.board_files.specs.RegionRoles.{AreTwoFiles}
use Rattle.board_files.proofs.RegionApart.{distinct_more, pair_at}
use Rattle.board_files.proofs.region_roles.are_distinct.Goals as goal

pub loop-index-preserved : goal.loop-index-preserved
loop-index-preserved g c =
    let nature = (g.R.Store.state c.args.rt.now).view.nature in
    let apart = c.in_ok-is_apart_from.ensures.ok in
    distinct_more nature c.args.files.now c.loop-index.index _ c.loop-index-test.true c.loop-index.invariant apart

pub returns-in_err-is_apart_from-clause-err : goal.returns-in_err-is_apart_from-clause-err
returns-in_err-is_apart_from-clause-err g c =
    let nature = (g.R.Store.state c.args.rt.now).view.nature in
    let p = err_from_is_err_and c.from_residual.result c.from_residual.ensures.1 in
    rw (p.1, p.2) (pair_at (λ earlier later.
    FailsApart nature (Some earlier.file) (Some later.file) c.in_err-is_apart_from.field-0.0)
    c.args.files.now c.loop-index.index _ c.loop-index-test.true c.in_err-is_apart_from.ensures.err)

pub returns-clause-ok : goal.returns-clause-ok
returns-clause-ok g c =
    let nature = (g.R.Store.state c.args.rt.now).view.nature in
    subst (AllPairs (AreTwoFiles nature)) (take_all c.loop-index.index c.args.files.now (omega arith))
    c.loop-index.invariant
