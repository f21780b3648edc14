use Rattle.std.proofs.Common.{◌≡◌, ◌∙◌, ℕ, List, Option, Result, Ok, Err, arith, refl, rules, subst, sym}
use Rattle.nor_model.specs.Bus.{BusState}
use Rattle.nor_files.specs.Files.{FilesState, View}
use Rattle.nor_layout.specs.declared.ranges.Span.{Span}
use Rattle.nor_args.specs.declared.job.Operation.{Operation}
use Rattle.nor_console.specs.declared.answers.Answer.{Answer}
use Rattle.board_jobs.specs.declared.chip_faults.JobFault.{JobFault}
use Rattle.board_jobs.specs.Jobs.{EndsJob}
use Rattle.serprog_runs.proofs.RegionsKept.{none_copied, sends_kept, task_kept}
use Rattle.serprog_runs.proofs.SealedRuns.{read_seals, seals_later}
use Rattle.serprog_runs.proofs.run.run_job.Goals as goal

pub returns-in-Ok-clause-ran : goal.returns-in-Ok-clause-ran
returns-in-Ok-clause-ran g c =
    let reads = sym c.reads_out.ensures ∙ c.if-reads_out.true in
    record {
      outcome = Ok c.in-Ok.answer;
      ended = _;
      ends = task_kept _ _ _ _ _ c.end_with_files-printed.ensures.nature _ _ c.args.operation.now
          c.args.operation.now.task c.in-Ok.answer reads c.end_with_files-printed.ensures.output
          (rw (c.begin_notes.ensures, c.set_progress_job.ensures) at c.in-Ok.ensures.ends);
      sends = sends_kept c.args.sources.included c.args.sources.bytes.items (g.R.Store.state c.args.files.now).view
          (g.R.Store.state c.end_job.new.files) (g.R.Store.state c.end_with_files-printed.new.files)
          c.end_with_files-printed.ensures.nature _ _ c.args.operation.now c.args.operation.now.task reads
          (rw (c.begin_notes.ensures, c.set_progress_job.ensures) at c.end_job.ensures.sends);
      looked = refl;
      few = c.end_run.ensures.few c.end_with_files-printed.ensures.few;
      printed = λ zero. c.end_with_files-printed.ensures.printed (c.end_run.ensures.failed zero);
      copied = λ zero. c.end_with_files-printed.ensures.copied (c.end_run.ensures.failed zero);
    }

ends_from : (operation : Operation) (ranges : Option (List Span)) (bytes : List ℕ) (before : View) (after : FilesState)
    (mid old ended : BusState) (outcome : Result Answer JobFault) → mid ≡ old
    → EndsJob operation ranges bytes before after mid ended outcome
    → EndsJob operation ranges bytes before after old ended outcome
ends_from operation ranges bytes before after mid old ended outcome same ends =
    subst (λ (s : BusState). EndsJob operation ranges bytes before after s ended outcome) same ends

pub returns-in-Ok-2-clause-ran : goal.returns-in-Ok-2-clause-ran
returns-in-Ok-2-clause-ran g c = record {
  outcome = Ok c.in-Ok-2.answer;
  ended = _;
  ends = rw (c.begin_notes.ensures, c.set_progress_job.ensures) at c.in-Ok-2.ensures.ends;
  sends = rw (c.begin_notes.ensures, c.set_progress_job.ensures) at c.end_job.ensures.sends;
  looked = refl;
  few = c.end_run-in-Ok-2.ensures.few (c.report_kept_bits-kept.ensures.few c.end_compared-printed.ensures.few);
  printed = λ zero. search rules;
  copied = λ zero. none_copied _ _ _ _ (sym c.reads_out.ensures ∙ c.if-reads_out.false);
}

pub returns-clause-ran : goal.returns-clause-ran
returns-clause-ran g c = record {
  outcome = Err c.in-Err.fault;
  ended = _;
  ends = ends_from c.args.operation.now c.args.sources.included c.args.sources.bytes.items
      (g.R.Store.state c.args.files.now).view (g.R.Store.state c.end_job.new.files) _ _ _ (Err c.in-Err.fault)
      (c.begin_notes.ensures ∙ c.set_progress_job.ensures) c.in-Err.ensures.ends;
  sends = rw (c.begin_notes.ensures, c.set_progress_job.ensures) at c.end_job.ensures.sends;
  looked = c.report_strays.ensures;
  few = c.end_log.ensures.few (omega arith);
  printed = λ zero. search rules;
  copied = λ zero. search rules;
}

pub returns-in-Ok-clause-sealed : goal.returns-in-Ok-clause-sealed
returns-in-Ok-clause-sealed g c =
    λ lawful. read_seals _ _ _ _ _ c.args.operation.now (sym c.reads_out.ensures ∙ c.if-reads_out.true)

pub returns-in-Ok-2-clause-sealed : goal.returns-in-Ok-2-clause-sealed
returns-in-Ok-2-clause-sealed g c = rw (c.begin_notes.ensures, c.set_progress_job.ensures) at c.end_job.ensures.sealed

pub returns-clause-sealed : goal.returns-clause-sealed
returns-clause-sealed g c = λ lawful. seals_later _ _ _ _ _ _ c.report_strays.ensures.only_reads.sent
    c.args.operation.now.task
    ((rw (c.begin_notes.ensures, c.set_progress_job.ensures) at c.end_job.ensures.sealed) lawful)
