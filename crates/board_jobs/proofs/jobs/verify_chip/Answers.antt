use Rattle.board_jobs.proofs.jobs.verify_chip.Goals as goal

pub returns : goal.returns
returns g c = rw (c.deref.ensures.value, c.as_ref-2.ensures.value, c.expect_reads.ensures) at c.verify_image.ensures
