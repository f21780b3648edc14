-- Calls that only read, over any bus.
use Rattle.std.specs.Prelude.{ℕ}
use Rattle.nor_model.specs.Bus.{BusState}
pub use Rattle.nor_driver.specs.OnlyReads.{IsSteadyOrIdle, OnlyReads}

-- Holds at every exit of calls that only read. `most` is the number of transactions that a well-behaved, punctual bus
-- carries out at most.
pub record HasOnlyLooked (old new : BusState) : Type 0 where
  pub most : ℕ
  pub only_reads : OnlyReads most old new
