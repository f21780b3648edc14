use Rattle.std.proofs.Common.{inl}
use Rattle.flashnor.proofs.Ended.{failed_ends}
use Rattle.flashnor.proofs.run.run_chip_job.Goals as goal

pub returns-in-Err-work_on_chip-clause-ends : goal.returns-in-Err-work_on_chip-clause-ends
returns-in-Err-work_on_chip-clause-ends g c =
    failed_ends (g.R.Store.state c.args.rt.now) (g.R.Store.state c.work_on_chip.new.rt) c.args.job.now _
    c.in-Err-work_on_chip.fault _ c.before-in-Err-work_on_chip.ensures.answer c.in-Err-work_on_chip.ensures.err

pub returns-in-Err-clause-ends : goal.returns-in-Err-clause-ends
returns-in-Err-clause-ends g c =
    failed_ends (g.R.Store.state c.args.rt.now) (g.R.Store.state c.args.rt.now) c.args.job.now _ _ _
    c.before-in-Err.ensures.answer (inl c.in-Err.ensures.fails)
