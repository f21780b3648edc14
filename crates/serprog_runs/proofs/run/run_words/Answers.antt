use Rattle.std.proofs.Common.{◌∙◌, ap, map, string_bytes}
use Rattle.serprog_runs.proofs.Ran.{never_zero, ran_given, succeeded_given, unused}
use Rattle.serprog_runs.proofs.run.run_words.Goals as goal

pub returns-in-Ok-arguments_after_name-clause-done : goal.returns-in-Ok-arguments_after_name-clause-done
returns-in-Ok-arguments_after_name-clause-done g c = succeeded_given _ _ _ _ _ _ _ _ _ _ c.in-Ok.is
    (ap (map string_bytes) c.as_slice.ensures.value ∙ c.in-Ok-arguments_after_name.ensures) c.run_over.ensures.done

pub returns-in-Ok-arguments_after_name-clause-ran : goal.returns-in-Ok-arguments_after_name-clause-ran
returns-in-Ok-arguments_after_name-clause-ran g c = ran_given _ _ _ _ _ _ _ _ _ _ c.in-Ok.is
    (ap (map string_bytes) c.as_slice.ensures.value ∙ c.in-Ok-arguments_after_name.ensures) c.run_over.ensures.ran

pub returns-in-Err-arguments_after_name-clause-ran : goal.returns-in-Err-arguments_after_name-clause-ran
returns-in-Err-arguments_after_name-clause-ran g c = rw c.in-Ok.is (unused _ c.args.used.now c.requires)

pub returns-in-Err-clause-ran : goal.returns-in-Err-clause-ran
returns-in-Err-clause-ran g c = rw c.in-Err.is tt

pub returns-in-Err-arguments_after_name-clause-done : goal.returns-in-Err-arguments_after_name-clause-done
returns-in-Err-arguments_after_name-clause-done g c = never_zero _ c.args.given _ c.end_badly.ensures

pub returns-in-Err-clause-done : goal.returns-in-Err-clause-done
returns-in-Err-clause-done g c = never_zero _ c.args.given _ c.end_badly-in-Err.ensures

pub returns-in-Err-arguments_after_name-clause-wired : goal.returns-in-Err-arguments_after_name-clause-wired
returns-in-Err-arguments_after_name-clause-wired g c = unused _ c.args.used.now c.requires

pub returns-in-Err-clause-wired : goal.returns-in-Err-clause-wired
returns-in-Err-clause-wired g c = unused _ c.args.used.now c.requires
