-- The transactions of a part of `apply`, the sectors that the part may target, and the address that a timeout names.
use Rattle.std.specs.Prelude.{◌≡◌, ◌≤◌, ◌+◌, ◌*◌, ◌/◌, ◌&&◌, ◌||◌, ℕ, Bool, true, nat_le, ⊤}
use Rattle.nor_model.specs.Bus.{BusState}
use Rattle.nor_driver.specs.declared.waits.OperationError.{OperationError}
use Rattle.nor_driver.specs.declared.waits.OperationError.TheVariants.{Stopped, Timeout}
use Rattle.nor_driver.specs.OnlyReads.{Spent}
use Rattle.nor_driver.specs.Ready.{StaysReady}
use Rattle.nor_driver.specs.Operations.{most_operation}
use Rattle.nor_driver.specs.Polls.{AddsTransactions}
use Rattle.nor_plan.specs.Planned.{holds_run}
use Rattle.nor_apply.specs.declared.tally.Tally.{Tally}

-- True if erases and programs of `sectors` may target `s`: `s` is in `sectors`, or `sectors` has all sectors of a chip
-- of `size` bytes and `s` lies past the chip's end. (A chip erase, C7h, counts as targeting all 4,096 sectors.)
abbrev pub may_target : (sectors : ℕ → Bool) → (size s : ℕ) → Bool
may_target sectors size s = sectors s || (nat_le (size / 4096) s && holds_run sectors 0 (size / 4096))

abbrev pub NamesTimeoutIn : (ℕ → Bool) → OperationError → Type 0
NamesTimeoutIn sectors Stopped = ⊤
NamesTimeoutIn sectors (Timeout address) = sectors (address / 4096) ≡ true

-- Holds after at most `readings` reads and `tally.count` operations, of 3 to 65,538 transactions each, succeeded.
pub record Tallies (readings : ℕ) (old new : BusState) (tally : Tally) : Type 0 where
  pub least : 3 * tally.count ≤ tally.transactions
  pub few : tally.transactions ≤ readings + most_operation * tally.count
  pub added : AddsTransactions tally.transactions (readings + 3 * tally.count) old.history new.history
  pub polled_ready : StaysReady old new
  pub unsent : tally.count ≡ 0 → new.sent ≡ old.sent
  pub idle : old.honest ≡ true → old.chip.busy ≡ 0 → new.chip.busy ≡ 0
  pub sent : old.honest ≡ true → Spent tally.transactions old new
