use Rattle.nor_files.proofs.Changes.{file_sets}
use Rattle.nor_files.proofs.stored.Stored.set_len.Goals as goal

pub returns : goal.returns
returns c = file_sets c.in_ok-change.ensures c.in-Some.ensures c.in_ok-has-in-Some.ensures
