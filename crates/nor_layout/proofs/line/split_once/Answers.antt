use Rattle.nor_layout.proofs.Cuts.{cut_at-first, cut_at-nowhere}
use Rattle.nor_layout.proofs.line.split_once.Goals as goal

pub returns-in_err-at : goal.returns-in_err-at
returns-in_err-at c = rw c.from_residual.ensures (cut_at-nowhere c.args.byte c.args.text.now c.in_err-at.ensures)

pub returns : goal.returns
returns c = cut_at-first c.args.byte c.args.text.now c.in_ok-at.at c.in_ok-at.ensures
