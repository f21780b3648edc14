use Rattle.std.specs.Prelude.{◌≡◌, ◌+◌, ◌≤◌, ◌%◌, ◌&&◌, ◌++◌, ℕ, Bool, not, List, [], ◌∷◌, length, map}
use Rattle.std.specs.List.{All, count_by}
use Rattle.nor_model.specs.Exchange.{Exchange}
use Rattle.nor_model.specs.History.{replied, bytes_or_none}
use Rattle.nor_model.specs.PolledReady.{is_poll, shows_ready}
use Rattle.nor_driver.specs.declared.waits.Waited.{Waited}

-- True if the transaction is a poll that received at least one reply byte, and the last of these bytes showed BUSY.
abbrev pub is_busy_poll : Exchange → Bool
is_busy_poll exchange = is_poll exchange.out && not (shows_ready (bytes_or_none exchange.reply))

abbrev pub busy_polls : List Exchange → ℕ
busy_polls history = count_by is_busy_poll history

abbrev pub poll_of : (status : ℕ) → Exchange
poll_of status = replied (0x05 ∷ []) (status ∷ [])

pub record PollsUntilReady (old new : List Exchange) (waited : Waited) : Type 0 where
  -- The bytes that the polls before the last one received, the latest first.
  pub busy : List ℕ
  pub each : All (λ status. status % 2 ≡ 1) busy
  pub count : waited.polls ≡ length busy + 1
  pub ready : waited.status1 % 2 ≡ 0
  pub is : new ≡ poll_of waited.status1 ∷ (map poll_of busy ++ old)

-- Holds if `new` has `sent` transactions more than `old`, and at most `others` of these aren't polls that showed BUSY.
pub record AddsTransactions (sent others : ℕ) (old new : List Exchange) : Type 0 where
  pub all : length new ≡ length old + sent
  pub few_others : sent + busy_polls old ≤ others + busy_polls new
