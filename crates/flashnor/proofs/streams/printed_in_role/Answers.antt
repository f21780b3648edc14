use Rattle.flashnor.proofs.OneRole.{printed_name}
use Rattle.flashnor.proofs.streams.printed_in_role.Goals as goal

pub returns-then-branch-clause-printed : goal.returns-then-branch-clause-printed
returns-then-branch-clause-printed g c =
    printed_name (g.R.Store.state c.args.rt.now).view.nature c.args.job.now c.args.role _
    c.file_with_role-name.ensures (c.in_ok-is_printed.ensures.printed c.if-branch.true)
