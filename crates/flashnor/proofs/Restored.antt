-- On a modelled bus that is steady or idle, the promise of `restore_named` implies `HasRestoredEmulated`.
use Rattle.std.proofs.Common.{◌∙◌, Option, None, Some, Result, Ok, Err, inl, inr, sym, true}
use Rattle.nor_model.specs.Bus.{BusState}
use Rattle.nor_driver.specs.OnlyReads.{IsSteadyOrIdle, OnlyReads}
use Rattle.nor_journal.specs.Text.{Content as Journal}
use Rattle.nor_probe.specs.Found.{most_probe}
use Rattle.nor_probe.specs.Known.{IsModelled}
use Rattle.nor_probe.specs.declared.table.ChipName.{ChipName}
use Rattle.nor_request.specs.declared.refusal.Refusal.{Refusal}
use Rattle.nor_request.specs.declared.report.Report.{Report}
use Rattle.nor_session.proofs.Restoring.{can_restore_after_reads}
use Rattle.nor_session.proofs.WrittenBack.{restore_over}
use Rattle.nor_session.specs.Headline.{RestoresOriginal}
use Rattle.nor_session.specs.Restore.{RestoreAlways, RestoreModelled}
use Rattle.nor_jobs.specs.Finding.{HasIdentified, IsNamedFirst}
use Rattle.nor_jobs.specs.Restoring.{HasRestoredNamed}
use Rattle.nor_jobs.proofs.Identified.{has_failed, has_found}
use Rattle.nor_console.specs.Readings.{AnswersCall}
use Rattle.nor_console.specs.Sessions.{ReportsDone}
use Rattle.nor_console.specs.declared.answers.Answer.{Answer}
use Rattle.nor_console.specs.declared.answers.Answer.TheVariants as answer
use Rattle.flashnor.specs.Changes.{HasRestoredEmulated, Passes}
use Rattle.flashnor.proofs.Ready.{only_reads_none, passes_none, passes_probe, same_after_reads}

reads_named : (named : Option ChipName) (old found : BusState) → IsNamedFirst named old found
    → OnlyReads most_probe old found
reads_named None old found same = rw same (only_reads_none most_probe old)
reads_named (Some name) old found is = (has_found (Some name) old found is.0 is.1).always.only_reads

passes_named : (named : Option ChipName) (old found : BusState) → IsModelled old → IsSteadyOrIdle old
    → IsNamedFirst named old found → Passes named old found
passes_named None old found modelled steady_or_idle same = rw same (passes_none old modelled steady_or_idle)
passes_named (Some name) old found modelled steady_or_idle is =
    let has = has_found (Some name) old found is.0 is.1 in
    passes_probe (Some name) old found is.0 modelled has.always.only_reads.nature.honest
    has.always.only_reads.nature.further has.always.wanted
    (has.honest modelled.honest).finds

module _ (journal : Journal) (named : Option ChipName) (old new : BusState) (modelled : IsModelled old)
    (steady_or_idle : IsSteadyOrIdle old) where
  unnamed : (refusal : Refusal) → HasIdentified named old new (Err refusal)
      → HasRestoredEmulated journal named old new (Err refusal)
  unnamed refusal failed =
      let has = has_failed named old new refusal failed in
      let same = same_after_reads most_probe old new has.always.only_reads modelled.honest steady_or_idle in
      record {
        found = new;
        only_reads = has.always.only_reads;
        same = same;
        config = same.config;
        name = tt;
        returned = inr (has.fault, has.is, (has.honest modelled.honest).errors);
        over = λ first opened can written kept. restore_over journal first old new opened can
            (can_restore_after_reads journal first most_probe old new modelled.honest has.always.only_reads can) written
            (kept ∙ sym has.always.only_reads.nature.further);
        back = tt;
      }

  ran : (found : BusState) (result : Result Report Refusal) (outcome : Result Answer Refusal)
      → OnlyReads most_probe old found → Passes named old found → RestoresOriginal journal found new result
      → RestoreAlways journal found new result → RestoreModelled journal found new result
      → AnswersCall ReportsDone result outcome → HasRestoredEmulated journal named old new outcome
  ran found (Ok report) (Ok (answer.Done returned)) only_reads passes original always done passed = record {
    found = found;
    only_reads = only_reads;
    same = passes.same;
    config = done.leaves.config ∙ passes.same.config;
    name = passes.name;
    returned = rw passed done.done;
    over = λ first opened can written kept. restore_over journal first old new opened can
        (original.within first
        (can_restore_after_reads journal first most_probe old found modelled.honest only_reads can)) written
        (kept ∙ sym (always.spends.nature.further ∙ only_reads.nature.further));
    back = λ first can. original.back first
        (can_restore_after_reads journal first most_probe old found modelled.honest only_reads can);
  }
  ran found (Err refusal) (Err returned) only_reads passes original always failed passed = rw passed (record {
    found = found;
    only_reads = only_reads;
    same = passes.same;
    config = failed.leaves.config ∙ passes.same.config;
    name = tt;
    returned = inl (record {
      refuses = failed.errors;
      same = λ judged.
          same_after_reads 69638 _ _ (always.only_reads judged) passes.modelled.honest passes.steady_or_idle;
    });
    over = λ first opened can written kept. restore_over journal first old new opened can
        (original.within first
        (can_restore_after_reads journal first most_probe old found modelled.honest only_reads can)) written
        (kept ∙ sym (always.spends.nature.further ∙ only_reads.nature.further));
    back = tt;
  })
  ran found _ _ only_reads passes original always done passed = absurd passed

pub restored_emulated : (journal : Journal) (named : Option ChipName) (old new : BusState) → IsModelled old
    → IsSteadyOrIdle old → (outcome : Result Answer Refusal) → HasRestoredNamed true named journal old new outcome
    → HasRestoredEmulated journal named old new outcome
restored_emulated journal named old new modelled steady_or_idle outcome (inl has) =
    let passes = passes_named named old has.found modelled steady_or_idle has.first in
    ran journal named old new modelled steady_or_idle has.found has.ran.result outcome
    (reads_named named old has.found has.first) passes (has.ran.restores_original passes.modelled) has.ran.always
    (has.ran.modelled passes.modelled) has.ran.returned
restored_emulated journal None old new modelled steady_or_idle outcome (inr failed) = absurd failed.1
restored_emulated journal (Some name) old new modelled steady_or_idle outcome (inr failed) =
    rw failed.2 (unnamed journal (Some name) old new modelled steady_or_idle failed.0 failed.1)
