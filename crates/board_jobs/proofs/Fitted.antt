-- Lemmas on the fitted journal (it is valid), on the restore from it, and on the errors if the status can't be read.
use Rattle.std.proofs.Common.{◌≡◌, ℕ, Bool, List, Option, Result, inl, refl}
use Rattle.nor_model.specs.Bus.{BusState}
use Rattle.nor_journal.specs.Text.{Content as Journal, IsContent}
use Rattle.nor_driver.specs.Waits.{EndsAt}
use Rattle.nor_driver.specs.declared.waits.OperationError.{OperationError}
use Rattle.nor_driver.specs.declared.waits.OperationError.TheVariants as failed
use Rattle.nor_probe.specs.declared.table.ChipName.{ChipName}
use Rattle.nor_request.specs.Refusal.{of_operation}
use Rattle.nor_request.specs.declared.refusal.Refusal.{Refusal}
use Rattle.nor_console.specs.declared.answers.Answer.{Answer}
use Rattle.nor_jobs.specs.Restoring.{HasRestoredNamed}
use Rattle.board_jobs.specs.BoardBits.{fitted_to}
use Rattle.board_jobs.specs.Fitting.{FailsToFit, HasRestoredAgain, IsEncodedFor}
use Rattle.board_jobs.specs.Sends.{KeepsSent}

pub fitted_sound : (found : List ℕ) (journal : Journal) → IsContent journal → IsContent (fitted_to found journal)
fitted_sound found journal sound = record {
  id = sound.id;
  unique = sound.unique;
  status = refl;
  size = sound.size;
  saved = sound.saved;
}

pub status_unread : (error : OperationError) (old new : BusState) → KeepsSent old new → EndsAt error new.history
    → FailsToFit old new (of_operation error)
status_unread failed.Stopped old new kept ends = (kept, ends)
status_unread (failed.Timeout address) old new kept ends = (kept, ends)

pub restored_again : (quick : Bool) (named : Option ChipName) (journal fitted : Journal) (bytes : List ℕ)
    (old read new : BusState) (outcome : Result Answer Refusal) (encoded : IsEncodedFor journal old read bytes)
    → fitted ≡ fitted_to encoded.found journal → HasRestoredNamed quick named fitted read new outcome
    → HasRestoredAgain quick named journal old new outcome
restored_again quick named journal fitted bytes old read new outcome encoded same restored = inl (record {
  read = read;
  found = encoded.found;
  shows = encoded.shows;
  stays = encoded.stays;
  restored = rw same at restored;
})
