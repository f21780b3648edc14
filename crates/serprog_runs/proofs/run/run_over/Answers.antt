use Rattle.std.proofs.Common.{arith, inl, inr}
use Rattle.serprog_runs.proofs.Ran.{is_used, job_ran, unused}
use Rattle.serprog_runs.proofs.SealedRuns.{job_sealed}
use Rattle.serprog_runs.proofs.run.run_over.Goals as goal

pub returns-in-Ok-clause-ran : goal.returns-in-Ok-clause-ran
returns-in-Ok-clause-ran g c = job_ran _ _ _ _ _ _ (rw c.in-Ok-Chip.field-0-is at c.in-Ok-Chip.ensures.ok) _ _ _ _ c.run_on_chip.ensures.ran

pub returns-in-Ok-clause-done : goal.returns-in-Ok-clause-done
returns-in-Ok-clause-done g c = λ zero. inr (inr (is_used _ _ (c.run_on_chip.ensures.used zero)
    (rw zero at (returns-in-Ok-clause-ran g c))))

pub returns-in-Ok-List-clause-ran : goal.returns-in-Ok-List-clause-ran
returns-in-Ok-List-clause-ran g c = unused _ c.args.used.now c.requires

pub returns-in-Ok-Description-default-None-clause-ran : goal.returns-in-Ok-Description-default-None-clause-ran
returns-in-Ok-Description-default-None-clause-ran g c = unused _ c.args.used.now c.requires

pub returns-in-Ok-Description-default-Some-clause-ran : goal.returns-in-Ok-Description-default-Some-clause-ran
returns-in-Ok-Description-default-Some-clause-ran g c = unused _ c.args.used.now c.requires

pub returns-in-Ok-Chip-clause-ran : goal.returns-in-Ok-Chip-clause-ran
returns-in-Ok-Chip-clause-ran g c = unused _ c.args.used.now c.requires

pub returns-clause-ran : goal.returns-clause-ran
returns-clause-ran g c = unused _ c.args.used.now c.requires

pub returns-in-Ok-Chip-clause-done : goal.returns-in-Ok-Chip-clause-done
returns-in-Ok-Chip-clause-done g c = λ zero. absurd (omega (arith, c.end_badly.ensures, zero))

pub returns-clause-done : goal.returns-clause-done
returns-clause-done g c = λ zero. inl (inl (c.in-Err.ensures.help (c.end_early.ensures.help zero)))

pub returns-in-Ok-List-clause-wired : goal.returns-in-Ok-List-clause-wired
returns-in-Ok-List-clause-wired g c = unused _ c.args.used.now c.requires

pub returns-in-Ok-Description-default-None-clause-wired : goal.returns-in-Ok-Description-default-None-clause-wired
returns-in-Ok-Description-default-None-clause-wired g c = unused _ c.args.used.now c.requires

pub returns-in-Ok-Description-default-Some-clause-wired : goal.returns-in-Ok-Description-default-Some-clause-wired
returns-in-Ok-Description-default-Some-clause-wired g c = unused _ c.args.used.now c.requires

pub returns-in-Ok-Chip-clause-wired : goal.returns-in-Ok-Chip-clause-wired
returns-in-Ok-Chip-clause-wired g c = unused _ c.args.used.now c.requires

pub returns-clause-wired : goal.returns-clause-wired
returns-clause-wired g c = unused _ c.args.used.now c.requires

pub returns-in-Ok-clause-wired : goal.returns-in-Ok-clause-wired
returns-in-Ok-clause-wired g c = c.run_on_chip.ensures.wired

pub returns-in-Ok-List-clause-sealed : goal.returns-in-Ok-List-clause-sealed
returns-in-Ok-List-clause-sealed g c = λ lawful. unused _ c.args.used.now c.requires

pub returns-in-Ok-Description-default-None-clause-sealed : goal.returns-in-Ok-Description-default-None-clause-sealed
returns-in-Ok-Description-default-None-clause-sealed g c = λ lawful. unused _ c.args.used.now c.requires

pub returns-in-Ok-Description-default-Some-clause-sealed : goal.returns-in-Ok-Description-default-Some-clause-sealed
returns-in-Ok-Description-default-Some-clause-sealed g c = λ lawful. unused _ c.args.used.now c.requires

pub returns-in-Ok-Chip-clause-sealed : goal.returns-in-Ok-Chip-clause-sealed
returns-in-Ok-Chip-clause-sealed g c = λ lawful. unused _ c.args.used.now c.requires

pub returns-clause-sealed : goal.returns-clause-sealed
returns-clause-sealed g c = λ lawful. unused _ c.args.used.now c.requires

pub returns-in-Ok-clause-sealed : goal.returns-in-Ok-clause-sealed
returns-in-Ok-clause-sealed g c = λ lawful. job_sealed _ _ _ _ _ _ _ (rw c.in-Ok-Chip.field-0-is at c.in-Ok-Chip.ensures.ok) _
    (c.run_on_chip.ensures.sealed lawful)
