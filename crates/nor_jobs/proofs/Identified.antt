-- Lemmas about an identification: which result its call of `probe` had, and which promises the call kept.
use Rattle.std.proofs.Common.{◌≡◌, IfErr, IfOk, Option, Result, Ok, Err, refl, true}
use Rattle.nor_model.specs.Bus.{BusState}
use Rattle.nor_probe.specs.Found.{ProbeAlways, ProbeHonest}
use Rattle.nor_probe.specs.declared.probes.Found.{Found}
use Rattle.nor_probe.specs.declared.probes.ProbeFault.{ProbeFault}
use Rattle.nor_probe.specs.declared.table.ChipName.{ChipName}
use Rattle.nor_request.specs.Refusal.{of_probe}
use Rattle.nor_request.specs.declared.refusal.Refusal.{Refusal}
use Rattle.nor_console.specs.Messages.{IsReportedAs}
use Rattle.nor_console.specs.declared.messages.Fault.{Fault}
use Rattle.nor_jobs.specs.Finding.{FailsToFind, HasIdentified, IsProbed}

probed_found : (probed : Result Found ProbeFault) (chip : Found) → IsProbed probed (Ok chip) → probed ≡ Ok chip
probed_found (Ok found) chip is = cc is
probed_found (Err fault) chip is = absurd (cc is)

probed_failed : (probed : Result Found ProbeFault) (refusal : Refusal) → IsProbed probed (Err refusal)
    → (fault : ProbeFault) × (probed ≡ Err fault) × (refusal ≡ of_probe fault)
probed_failed (Ok found) refusal is = absurd (cc is)
probed_failed (Err fault) refusal is = (fault, refl, cc is)

pub record HasFound (named : Option ChipName) (old new : BusState) (chip : Found) : Type 0 where
  pub always : ProbeAlways named old new (Ok chip)
  pub honest : old.honest ≡ true → ProbeHonest named old new (Ok chip)

pub record HasFailed (named : Option ChipName) (old new : BusState) (refusal : Refusal) : Type 0 where
  pub fault : ProbeFault
  pub is : refusal ≡ of_probe fault
  pub always : ProbeAlways named old new (Err fault)
  pub honest : old.honest ≡ true → ProbeHonest named old new (Err fault)

module _ (named : Option ChipName) (old new : BusState) where
  pub has_found : (chip : Found) → HasIdentified named old new (Ok chip) → HasFound named old new chip
  has_found chip is =
      let same = probed_found is.probed chip is.returned in
      record { always = rw same at is.always; honest = rw same at is.honest }

  pub has_failed : (refusal : Refusal) → HasIdentified named old new (Err refusal) → HasFailed named old new refusal
  has_failed refusal is =
      let failed = probed_failed is.probed refusal is.returned in
      record {
        fault = failed.0;
        is = failed.2;
        always = rw failed.1 at is.always;
        honest = rw failed.1 at is.honest;
      }

  pub found_first : (outcome : Result Found Refusal) (result : Result Found Fault) → HasIdentified named old new outcome
      → IsReportedAs outcome result → IfOk result (λ found. HasIdentified named old new (Ok found))
  found_first (Ok found) result is returned = rw returned is
  found_first (Err refusal) result is returned = rw returned tt

  pub fails_first : (outcome : Result Found Refusal) (result : Result Found Fault) → HasIdentified named old new outcome
      → IsReportedAs outcome result → IfErr result (FailsToFind named old new)
  fails_first (Ok found) result is returned = rw returned tt
  fails_first (Err refusal) result is returned = rw returned (refusal, is, refl)
