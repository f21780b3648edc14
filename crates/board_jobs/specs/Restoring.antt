-- A restore: its call to the engine, the reads before and after the call, and the faults of the job.
use Rattle.std.specs.Prelude.{◌≡◌, ◌⊎◌, ℕ, Bool, true, false, List, Option, None, Result, Ok}
use Rattle.nor_model.specs.Bus.{BusState}
use Rattle.nor_journal.specs.Text.{Content as Journal, IsContent, text}
use Rattle.nor_probe.specs.declared.probes.Found.{Found}
use Rattle.nor_probe.specs.declared.table.ChipName.{ChipName}
use Rattle.nor_request.specs.declared.refusal.Refusal.{Refusal}
use Rattle.nor_request.specs.declared.refusal.Refusal.TheVariants.{Memory, OtherChip, Stopped}
use Rattle.nor_session.specs.Restore.{IsOfTypeFound}
use Rattle.nor_args.specs.declared.job.Operation.{Operation}
use Rattle.nor_console.specs.declared.answers.Answer.{Answer}
use Rattle.nor_console.specs.declared.messages.Fault.{Fault}
use Rattle.nor_console.specs.declared.messages.Fault.TheVariants as end
use Rattle.nor_jobs.specs.Restoring.{IsNoJournal}
use Rattle.nor_jobs.specs.Finding.{FailsToFind, HasIdentified}
use Rattle.board_jobs.specs.Fitting.{HasRestoredFitting}
use Rattle.board_jobs.specs.UnsavedSectors.{FailsRest, FollowsRestore, HasReadRest, HasStoppedInRest, is_compared_after}
use Rattle.board_jobs.specs.declared.chip_faults.JobFault.{JobFault}
use Rattle.board_jobs.specs.declared.chip_faults.JobFault.TheVariants as ended

-- Holds if the chip was identified, has the journal's ID and size, and its unsaved sectors were read into `rest`.
pub record HasReadBefore (named : Option ChipName) (journal : Journal) (rest : List ℕ)
    (old new : BusState) : Type 0 where
  pub chip : Found
  pub found : BusState
  pub identified : HasIdentified named old found (Ok chip)
  pub kind : IsOfTypeFound journal chip
  pub read : HasReadRest journal rest found new

-- Holds after a restore without `-N`: the sectors that the journal doesn't save were read before the restore and, if it
-- succeeded or returned error 14, were read again afterwards with the same bytes.
pub record HasRestoredAndCompared (operation : Operation) (journal : Journal) (old new : BusState)
    (outcome : Result Answer Refusal) : Type 0 where
  pub rest : List ℕ
  pub found : BusState
  pub restored : BusState
  pub first : HasReadBefore operation.named journal rest old found
  pub ran : HasRestoredFitting operation.is_quick None journal found restored outcome
  pub followed : FollowsRestore (is_compared_after outcome) journal rest restored new

-- Holds after a restore from this journal: with the comparison if `compared` is true (no `-N`), otherwise without it.
abbrev pub HasRestoredBy : (compared : Bool) → Operation → Journal → (old new : BusState) → Result Answer Refusal
    → Type 0
HasRestoredBy true operation journal old new outcome = HasRestoredAndCompared operation journal old new outcome
HasRestoredBy false operation journal old new outcome =
    HasRestoredFitting operation.is_quick operation.named journal old new outcome

pub record HasRestored (operation : Operation) (bytes : List ℕ) (old new : BusState)
    (outcome : Result Answer Refusal) : Type 0 where
  pub journal : Journal
  pub sound : IsContent journal
  pub read : bytes ≡ text journal
  pub restored : HasRestoredBy operation.verifies_all operation journal old new outcome

-- Holds for error 16 (the chip has another ID or size than the journal) or 12 (the bus stopped) before a restore.
abbrev pub FailsRestOf : Journal → Found → (old new : BusState) → Refusal → Type 0
FailsRestOf journal chip old new OtherChip = (new ≡ old) × (¬ IsOfTypeFound journal chip)
FailsRestOf journal chip old new Stopped = HasStoppedInRest journal old new
FailsRestOf journal chip old new _ = ⊥

pub record HasNotReadRest (named : Option ChipName) (journal : Journal) (old new : BusState)
    (refusal : Refusal) : Type 0 where
  pub chip : Found
  pub found : BusState
  pub identified : HasIdentified named old found (Ok chip)
  pub fails : FailsRestOf journal chip found new refusal

abbrev pub FailsToReadRest : Option ChipName → Journal → (old new : BusState) → Fault → Type 0
FailsToReadRest named journal old new fault = FailsToFind named old new fault
    ⊎ ((refusal : Refusal) × HasNotReadRest named journal old new refusal × (fault ≡ end.Refused refusal))

-- Holds if a restore without `-N` had this outcome, and the comparison after it then failed with this error.
pub record HasNotComparedRest (operation : Operation) (journal : Journal) (old new : BusState)
    (outcome : Result Answer Refusal) (refusal : Refusal) : Type 0 where
  pub rest : List ℕ
  pub found : BusState
  pub restored : BusState
  pub first : HasReadBefore operation.named journal rest old found
  pub ran : HasRestoredFitting operation.is_quick None journal found restored outcome
  pub followed : is_compared_after outcome ≡ true
  pub fails : FailsRest journal rest restored new refusal

-- Holds if a restore without `-N` failed with this fault: before its call to the engine, or in the later comparison.
abbrev pub FailsCompared : Operation → Journal → (old new : BusState) → JobFault → Type 0
FailsCompared operation journal old new (ended.Fault fault) = ((new ≡ old) × (fault ≡ end.Refused Memory))
    ⊎ FailsToReadRest operation.named journal old new fault
FailsCompared operation journal old new (ended.RestNotCompared outcome refusal) =
    HasNotComparedRest operation journal old new outcome refusal
FailsCompared operation journal old new _ = ⊥

-- Holds if a restore from this journal failed with this fault before or after its call to the engine. Never holds with
-- `-N`.
abbrev pub FailsBy : (compared : Bool) → Operation → Journal → (old new : BusState) → JobFault → Type 0
FailsBy true operation journal old new fault = FailsCompared operation journal old new fault
FailsBy false operation journal old new fault = ⊥

pub record HasNotRestored (operation : Operation) (bytes : List ℕ) (old new : BusState)
    (fault : JobFault) : Type 0 where
  pub journal : Journal
  pub sound : IsContent journal
  pub read : bytes ≡ text journal
  pub fails : FailsBy operation.verifies_all operation journal old new fault

abbrev pub FailsRestore : Operation → (bytes : List ℕ) → (old new : BusState) → JobFault → Type 0
FailsRestore operation bytes old new fault = HasNotRestored operation bytes old new fault
    ⊎ ((new ≡ old) × ((error : Fault) × IsNoJournal bytes error × (fault ≡ ended.Fault error)))
