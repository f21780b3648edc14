-- The state of a bus that reads ahead, and the data in its block.
use Rattle.std.specs.Prelude.{◌≡◌, ◌<◌, ◌+◌, ◌&&◌, ◌||◌, ℕ, Bool, true, List, take, nat_le}
use Rattle.nor_model.specs.Bus.{BusState}
use Rattle.nor_model.specs.Exchange.{Exchange}
use Rattle.nor_buses.specs.Again.{HasData}
use Rattle.nor_buses.specs.ReadsAs.{around}

-- True if the bus inside is well-behaved for reads of up to `longest` bytes, the greatest length of a block.
abbrev pub takes_blocks : (longest : ℕ) → (inside : BusState) → Bool
takes_blocks longest inside = inside.honest && (inside.unlimited || nat_le longest (4096 + inside.longer))

-- The state of a bus that reads ahead. This bus is well-behaved if and only if `takes_blocks` is true.
abbrev pub reads_ahead : (longest : ℕ) → (inside : BusState) → (history : List Exchange) → BusState
reads_ahead longest inside history = record (around inside history) { honest = takes_blocks longest inside }

-- Holds if the first `len` bytes of `block` are the bytes that the chip of the bus inside returns to a read from
-- `start` on. Always holds if `takes_blocks` is false.
pub record HoldsData (longest : ℕ) (block : List ℕ) (start len : ℕ) (inside : BusState) : Type 0 where
  pub same : 0 < len → takes_blocks longest inside ≡ true → HasData inside.chip start (take len block)
