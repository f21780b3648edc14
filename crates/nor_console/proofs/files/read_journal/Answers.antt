use Rattle.nor_console.proofs.FileFaults.{reading_shares}
use Rattle.nor_console.proofs.files.read_journal.Goals as goal

pub returns-in-Ok-read_file-clause-ok : goal.returns-in-Ok-read_file-clause-ok
returns-in-Ok-read_file-clause-ok g c = rw (← c.share.ensures.same.view) c.in-Ok-read_file.ensures.ok

pub returns-in-Err-read_file-clause-err : goal.returns-in-Err-read_file-clause-err
returns-in-Err-read_file-clause-err g c =
    reading_shares (g.R.Store.state c.args.rt.now).view c.args.journal.now 16793662 c.in-Err-read_file.fault
    (rw (← c.share.ensures.same.view) c.in-Err-read_file.ensures.err)
