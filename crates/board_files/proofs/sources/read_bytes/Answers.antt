use Rattle.board_files.proofs.sources.read_bytes.Goals as goal

pub returns-in-Verify-clause-ok : goal.returns-in-Verify-clause-ok
returns-in-Verify-clause-ok g c = rw c.in-Verify.is c.read_file.ensures.ok
