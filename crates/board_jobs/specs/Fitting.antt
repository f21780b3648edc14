-- A restore of a chip whose board changed QE, the reserved bit or LB1 to LB3 after the journal was made.
use Rattle.std.specs.Prelude.{◌≡◌, ◌⊎◌, ℕ, Bool, true, List, Option, Result, Err}
use Rattle.nor_model.specs.Bus.{BusState}
use Rattle.nor_model.specs.History.{EndsBusy, EndsStopped}
use Rattle.nor_journal.specs.Text.{Content as Journal, text}
use Rattle.nor_probe.specs.declared.table.ChipName.{ChipName}
use Rattle.nor_request.specs.declared.refusal.Refusal.{Refusal}
use Rattle.nor_request.specs.declared.refusal.Refusal.TheVariants.{Memory, StatusDiffers, Stopped, Timeout}
use Rattle.nor_console.specs.declared.answers.Answer.{Answer}
use Rattle.nor_jobs.specs.Restoring.{HasRestoredNamed}
use Rattle.board_jobs.specs.BoardBits.{fitted_to, may_stay}
use Rattle.board_jobs.specs.Sends.{KeepsSent}
use Rattle.board_jobs.specs.StatusLocks.{ReadsStatus}

-- Holds if the status was read as `found`, for which `may_stay` is true, and `bytes` encode the fitted journal.
pub record IsEncodedFor (journal : Journal) (old new : BusState) (bytes : List ℕ) : Type 0 where
  pub found : List ℕ
  pub shows : ReadsStatus old new found
  pub stays : may_stay journal.status found ≡ true
  pub encoded : bytes ≡ text (fitted_to found journal)

-- Holds if the status was read as `found`, for which `may_stay` is true, and then a restore from the fitted journal had
-- this outcome.
pub record HasRestoredFitted (quick : Bool) (named : Option ChipName) (journal : Journal) (old new : BusState)
    (outcome : Result Answer Refusal) : Type 0 where
  pub read : BusState
  pub found : List ℕ
  pub shows : ReadsStatus old read found
  pub stays : may_stay journal.status found ≡ true
  pub restored : HasRestoredNamed quick named (fitted_to found journal) read new outcome

-- Holds for error 17 (a status bit differs), 18 (out of memory), 12 (the bus stopped) or 13 (the chip stayed busy), if
-- no modifying command was sent.
abbrev pub FailsToFit : (old new : BusState) → Refusal → Type 0
FailsToFit old new StatusDiffers = KeepsSent old new
FailsToFit old new Memory = KeepsSent old new
FailsToFit old new Stopped = KeepsSent old new × EndsStopped new.history
FailsToFit old new (Timeout address) = KeepsSent old new × EndsBusy new.history
FailsToFit old new _ = ⊥

abbrev pub HasRestoredAgain : (quick : Bool) → Option ChipName → Journal → (old new : BusState)
    → Result Answer Refusal → Type 0
HasRestoredAgain quick named journal old new outcome = HasRestoredFitted quick named journal old new outcome
    ⊎ ((refusal : Refusal) × FailsToFit old new refusal × (outcome ≡ Err refusal))

pub record HasBeenRefused (quick : Bool) (named : Option ChipName) (journal : Journal) (old new : BusState)
    (outcome : Result Answer Refusal) : Type 0 where
  pub refused : BusState
  pub first : HasRestoredNamed quick named journal old refused (Err StatusDiffers)
  pub again : HasRestoredAgain quick named journal refused new outcome

abbrev pub HasRestoredFitting : (quick : Bool) → Option ChipName → Journal → (old new : BusState)
    → Result Answer Refusal → Type 0
HasRestoredFitting quick named journal old new outcome = HasRestoredNamed quick named journal old new outcome
    ⊎ HasBeenRefused quick named journal old new outcome
