use Rattle.std.specs.Prelude.{◌≡◌, ℕ, true, Option, List, ⊤}
use Rattle.nor_model.specs.Exchange.{Exchange}
use Rattle.nor_model.specs.History.{EndsStopped, EndsBusy, EndsReading}
use Rattle.nor_model.specs.Bus.{BusState}
use Rattle.nor_driver.specs.OnlyReads.{HasStopped}
use Rattle.nor_probe.specs.declared.table.ChipName.{ChipName}
use Rattle.nor_probe.specs.declared.probes.ProbeFault.TheVariants as Probes
use Rattle.nor_probe.specs.Found.{ProbeErrors}
use Rattle.nor_request.specs.declared.refusal.Refusal.{Refusal}
use Rattle.nor_request.specs.declared.refusal.Refusal.TheVariants.{NoChip, UnknownChip, OtherName, Stopped, Timeout, Mismatch}

-- Holds if an identification of at most `most` transactions may have failed with the given error.
abbrev pub IdentificationErrors : (most : ℕ) → Option ChipName → (old new : BusState) → Refusal → Type 0
IdentificationErrors most named old new NoChip = old.honest ≡ true → ProbeErrors named old new Probes.NoChip
IdentificationErrors most named old new (UnknownChip fault) =
    old.honest ≡ true → ProbeErrors named old new (Probes.UnknownChip fault)
IdentificationErrors most named old new OtherName = old.honest ≡ true → ProbeErrors named old new Probes.OtherName
IdentificationErrors most named old new Stopped = HasStopped most old new
IdentificationErrors most named old new (Timeout address) =
    (address ≡ 0) × EndsBusy new.history × (old.honest ≡ true → ⊥)
IdentificationErrors most named old new _ = ⊥

abbrev pub EndsAtError : Refusal → List Exchange → Type 0
EndsAtError Stopped history = EndsStopped history
EndsAtError (Timeout address) history = EndsBusy history
EndsAtError (Mismatch address) history = EndsReading address history
EndsAtError _ history = ⊤
