-- The results of an identification on any bus, as a whole job or before another call to the engine.
use Rattle.std.specs.Prelude.{◌≡◌, true, Option, None, Some, Result, Ok, Err, IfOk}
use Rattle.nor_model.specs.Bus.{BusState}
use Rattle.nor_probe.specs.Found.{IsConfigOf, ProbeAlways, ProbeHonest}
use Rattle.nor_probe.specs.Known.{IsModelled}
use Rattle.nor_probe.specs.declared.probes.Found.{Found}
use Rattle.nor_probe.specs.declared.probes.ProbeFault.{ProbeFault}
use Rattle.nor_probe.specs.declared.table.ChipName.{ChipName}
use Rattle.nor_request.specs.Refusal.{of_probe}
use Rattle.nor_request.specs.declared.refusal.Refusal.{Refusal}
use Rattle.nor_console.specs.Readings.{AnswersCall}
use Rattle.nor_console.specs.declared.answers.Answer.{Answer}
use Rattle.nor_console.specs.declared.answers.Answer.TheVariants as answer
use Rattle.nor_console.specs.declared.messages.Fault.{Fault}
use Rattle.nor_console.specs.declared.messages.Fault.TheVariants as end

abbrev pub IsProbed : Result Found ProbeFault → Result Found Refusal → Type 0
IsProbed (Ok found) result = result ≡ Ok found
IsProbed (Err fault) result = result ≡ Err (of_probe fault)

-- Holds if an identification with this result called `probe`, which obeyed its contract.
pub record HasIdentified (named : Option ChipName) (old new : BusState) (result : Result Found Refusal) : Type 0 where
  pub probed : Result Found ProbeFault
  pub always : ProbeAlways named old new probed
  pub honest : old.honest ≡ true → ProbeHonest named old new probed
  pub modelled : IsModelled old → IfOk probed (IsConfigOf old.further old.chip.config)
  pub returned : IsProbed probed result

abbrev pub ReportsFound : Found → Answer → Type 0
ReportsFound found (answer.Found returned) = returned ≡ found
ReportsFound found _ = ⊥

abbrev pub ReportsSize : Found → Answer → Type 0
ReportsSize found (answer.Size size) = size ≡ found.size
ReportsSize found _ = ⊥

pub record HasLookedUp (reports : Found → Answer → Type 0) (named : Option ChipName) (old new : BusState)
    (outcome : Result Answer Refusal) : Type 0 where
  pub result : Result Found Refusal
  pub identified : HasIdentified named old new result
  pub returned : AnswersCall reports result outcome

abbrev pub FailsToFind : Option ChipName → (old new : BusState) → Fault → Type 0
FailsToFind named old new fault =
    (refusal : Refusal) × HasIdentified named old new (Err refusal) × (fault ≡ end.Refused refusal)

-- With a name: holds if the chip was identified and has this name. Without a name: holds if nothing was sent.
abbrev pub IsNamedFirst : Option ChipName → (old new : BusState) → Type 0
IsNamedFirst None old new = new ≡ old
IsNamedFirst (Some name) old new = (chip : Found) × HasIdentified (Some name) old new (Ok chip)

abbrev pub FailsToName : Option ChipName → (old new : BusState) → Refusal → Type 0
FailsToName None old new refusal = ⊥
FailsToName (Some name) old new refusal = HasIdentified (Some name) old new (Err refusal)
