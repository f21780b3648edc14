use Rattle.std.proofs.Common.{inl}
use Rattle.flashnor.proofs.Before.{keeps_existing, keeps_still}
use Rattle.flashnor.proofs.existing.fault_before.Goals as goal

pub returns-in-Err-clause-fails : goal.returns-in-Err-clause-fails
returns-in-Err-clause-fails g c = inl c.in-Err.ensures.err

pub returns-in-Err-clause-keeps : goal.returns-in-Err-clause-keeps
returns-in-Err-clause-keeps g c = λ rest. keeps_still _ c.args.job.now.programmer c.args.job.now.task

pub returns-in-Err-read_all-clause-keeps : goal.returns-in-Err-read_all-clause-keeps
returns-in-Err-read_all-clause-keeps g c = λ rest.
    keeps_existing c.args.job.now (g.R.Store.state c.args.rt.now) (g.R.Store.state c.read_all.new.rt) c.args.journal
    c.requires.makes c.in-Ok.ensures.ok (c.in-Err-read_all.ensures.others rest.lawful)
