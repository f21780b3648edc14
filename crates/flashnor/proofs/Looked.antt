-- The results of the jobs that only identify the chip, on a ready bus (`IsReady`).
use Rattle.std.proofs.Common.{◌∙◌, Option, Result, Ok, Err, MatchResult, ap}
use Rattle.nor_model.specs.Bus.{BusState}
use Rattle.nor_probe.specs.declared.probes.Found.{Found}
use Rattle.nor_probe.specs.declared.table.ChipName.{ChipName}
use Rattle.nor_probe.specs.declared.table.Part.{Part}
use Rattle.nor_request.specs.declared.refusal.Refusal.{Refusal}
use Rattle.nor_args.specs.declared.programmer.Programmer.{Programmer}
use Rattle.nor_jobs.specs.Finding.{HasIdentified, HasLookedUp, ReportsFound, ReportsSize}
use Rattle.nor_jobs.proofs.Identified.{has_failed, has_found}
use Rattle.nor_console.specs.Readings.{AnswersCall}
use Rattle.nor_console.specs.declared.answers.Answer.{Answer}
use Rattle.nor_console.specs.declared.answers.Answer.TheVariants as answer
use Rattle.flashnor.specs.Chips.{IsReady}
use Rattle.flashnor.specs.Found.{IsEmulatedFound}
use Rattle.flashnor.specs.Readings.{FindRefuses, IdentifiesEmulated, ReportsEmulated, ReportsEmulatedSize}
use Rattle.flashnor.proofs.Ready.{finds_ready, refuses_ready}

module _ (programmer : Programmer) (named : Option ChipName) (old new : BusState) (ready : IsReady programmer old) where
  emulated : (found : Found) → HasIdentified named old new (Ok found) → IsEmulatedFound named programmer.chip found
  emulated found is =
      let has = has_found named old new found is in
      finds_ready programmer named old new found ready has.always.wanted (has.honest ready.honest).finds

  refuses : (refusal : Refusal) → HasIdentified named old new (Err refusal) → FindRefuses programmer named refusal
  refuses refusal is =
      let has = has_failed named old new refusal is in
      rw has.is (refuses_ready programmer named old new has.fault ready (has.honest ready.honest).errors)

  reports_chip : (result : Result Found Refusal) (outcome : Result Answer Refusal) → HasIdentified named old new result
      → AnswersCall ReportsFound result outcome
      → MatchResult outcome (ReportsEmulated programmer named) (FindRefuses programmer named)
  reports_chip (Ok found) (Ok (answer.Found returned)) is passed = rw passed (emulated found is)
  reports_chip (Err refusal) (Err returned) is passed = rw passed (refuses refusal is)
  reports_chip _ _ is passed = absurd passed

  reports_size : (result : Result Found Refusal) (outcome : Result Answer Refusal) → HasIdentified named old new result
      → AnswersCall ReportsSize result outcome
      → MatchResult outcome (ReportsEmulatedSize programmer named) (FindRefuses programmer named)
  reports_size (Ok found) (Ok (answer.Size size)) is passed =
      let has = emulated found is in (has.name, passed ∙ ap (λ (part : Part). part.size) has.part)
  reports_size (Err refusal) (Err returned) is passed = rw passed (refuses refusal is)
  reports_size _ _ is passed = absurd passed

  pub found_chip : (outcome : Result Answer Refusal) → HasLookedUp ReportsFound named old new outcome
      → IdentifiesEmulated (ReportsEmulated programmer named) programmer named old new outcome
  found_chip outcome has = record {
    only_reads = has.identified.always.only_reads;
    returned = reports_chip has.result outcome has.identified has.returned;
  }

  pub found_size : (outcome : Result Answer Refusal) → HasLookedUp ReportsSize named old new outcome
      → IdentifiesEmulated (ReportsEmulatedSize programmer named) programmer named old new outcome
  found_size outcome has = record {
    only_reads = has.identified.always.only_reads;
    returned = reports_size has.result outcome has.identified has.returned;
  }
