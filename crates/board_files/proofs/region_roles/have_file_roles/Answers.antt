use Rattle.std.proofs.lemmas.List.Elements.{All-more}
use Rattle.board_files.specs.RegionRoles.{HasOneRole}
use Rattle.board_files.proofs.region_roles.have_file_roles.Goals as goal

pub loop-region-preserved : goal.loop-region-preserved
loop-region-preserved g c =
    let operation = c.args.operation.now in
    All-more (λ region.
    HasOneRole (g.R.Store.state c.args.rt.now).view.nature c.args.device operation.log c.named_by.result region.file)
    _ _ _ c.loop-region-test.true c.loop-region.invariant c.in_ok-has_one_role.ensures.ok
