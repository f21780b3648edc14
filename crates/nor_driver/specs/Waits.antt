use Rattle.std.specs.Prelude.{◌≡◌, ◌≤◌, ◌<◌, ◌+◌, ◌-◌, ◌%◌, ◌==◌, ℕ, Bool, true, false, List, [], ◌∷◌, if◌then◌else◌, ⊤}
use Rattle.nor_model.specs.Chip.{Chip, status1_of}
use Rattle.nor_model.specs.Exchange.{Exchange}
use Rattle.nor_model.specs.History.{KeepsReplies, EndsStopped, EndsBusy, replied, last_reply}
use Rattle.nor_model.specs.PolledReady.{is_poll}
use Rattle.nor_model.specs.Bus.{BusState}
use Rattle.nor_driver.specs.declared.waits.OperationError.{OperationError}
use Rattle.nor_driver.specs.declared.waits.OperationError.TheVariants.{Stopped, Timeout}
use Rattle.nor_driver.specs.declared.waits.Waited.{Waited}
use Rattle.nor_driver.specs.OnlyReads.{Rested, Spent, RanOut}
use Rattle.nor_driver.specs.Polls.{PollsUntilReady}

-- Holds after one poll on a well-behaved bus. `status` is status 1 before the poll.
pub record HasPolled (old new : BusState) (status : ℕ) : Type 0 where
  pub rested : Rested old new
  pub status1 : status ≡ status1_of old.chip
  pub busy : new.chip.busy ≡ old.chip.busy - 1
  pub latch : new.chip.latch ≡ (if old.chip.busy == 1 then false else old.chip.latch)
  pub count : Spent 1 old new

pub record Polls (old new : BusState) (status : ℕ) : Type 0 where
  pub history : new.history ≡ replied (0x05 ∷ []) (status ∷ []) ∷ old.history
  pub done : old.honest ≡ true → HasPolled old new status

-- The write enable latch of `chip` after a wait. The end of an operation in progress clears the latch.
abbrev pub latch_when_idle : Chip → Bool
latch_when_idle chip = if chip.busy == 0 then chip.latch else false

pub record HasWaited (old new : BusState) (waited : Waited) : Type 0 where
  pub rested : Rested old new
  pub idle : new.chip.busy ≡ 0
  pub latch : new.chip.latch ≡ latch_when_idle old.chip
  pub status1 : waited.status1 ≡ status1_of new.chip
  pub polls : waited.polls ≡ old.chip.busy + 1
  pub count : Spent waited.polls old new

pub record Waits (old new : BusState) (waited : Waited) : Type 0 where
  pub history : PollsUntilReady old.history new.history waited
  pub keeps_other_replies : KeepsReplies is_poll old.history new.history
  pub status : last_reply is_poll new.history ≡ waited.status1 ∷ []
  pub some : 1 ≤ waited.polls
  pub few : waited.polls ≤ 65536
  pub clear : waited.status1 % 2 ≡ 0
  pub polled_ready : new.polled_ready ≡ true
  pub done : old.honest ≡ true → HasWaited old new waited

abbrev pub NamesTimeout : ℕ → OperationError → Type 0
NamesTimeout at Stopped = ⊤
NamesTimeout at (Timeout address) = address ≡ at

abbrev pub EndsAt : OperationError → List Exchange → Type 0
EndsAt Stopped history = EndsStopped history
EndsAt (Timeout address) history = EndsBusy history

-- Holds if a call that waits returned `error`, and sent nothing after the transaction that caused the error. On a
-- well-behaved bus the error is `Stopped`; if the bus is also punctual, it had fewer than `needed` transactions left
-- before the call.
pub record OperationFails (needed : ℕ) (old new : BusState) (error : OperationError) : Type 0 where
  pub last : EndsAt error new.history
  pub stopped : old.honest ≡ true → error ≡ Stopped
  pub ran_out : old.honest ≡ true → RanOut needed old new

pub record WaitFails (at : ℕ) (old new : BusState) (error : OperationError) : Type 0 where
  pub names : NamesTimeout at error
  pub fails : OperationFails 65536 old new error
  pub needed : old.honest ≡ true → old.punctual ≡ true → old.left < old.chip.busy + 1
