-- The fields of a `Paced`, a bus that pauses between polls.
use Rattle.std.specs.Prelude.{ℕ}
use Rattle.nor_buses.specs.declared.paced.Paced.{Paced}

abbrev pub paced_of : {B C : Type 0} → Paced B C → B
paced_of paced = paced.bus

-- The number of polls in a row that showed BUSY, up to the last transaction that succeeded; at most 2^64 - 1.
abbrev pub busy_row : {B C : Type 0} → Paced B C → ℕ
busy_row paced = paced.busy_polls

abbrev pub typical_in : {B C : Type 0} → Paced B C → ℕ
typical_in paced = paced.typical
