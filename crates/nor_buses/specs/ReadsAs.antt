-- Reads of data, and the states of buses that wrap another bus, the bus inside.
use Rattle.std.specs.Prelude.{◌≡◌, ◌<◌, ◌≤◌, ◌==◌, ◌+◌, ◌-◌, ◌*◌, ℕ, Bool, true, false, List, [], ◌∷◌, length, take, drop}
use Rattle.nor_model.specs.Bus.{BusState, unknown_bus}
use Rattle.nor_model.specs.Exchange.{Exchange}
use Rattle.nor_model.specs.History.{replied}

abbrev pub reads_data : (out : List ℕ) → Bool
reads_data (opcode ∷ x ∷ y ∷ z ∷ []) = opcode == 0x03
reads_data _ = false

-- The address in `out`: the three bytes after the opcode, high byte first, or 0 if `out` has no whole address.
abbrev pub address_in : (out : List ℕ) → ℕ
address_in (opcode ∷ x ∷ y ∷ z ∷ rest) = 65536 * x + 256 * y + z
address_in _ = 0

abbrev pub part : (bytes : List ℕ) → (at n : ℕ) → List ℕ
part bytes at n = take n (drop at bytes)

-- The state of a bus that may carry out one transaction with several transactions of the bus inside: the state of the
-- bus inside, but with the given history and not punctual.
abbrev pub around : (inside : BusState) → (history : List Exchange) → BusState
around inside history = record inside { history = history; punctual = false }

-- The state of a bus with its own history and the chip of the bus inside. The transactions that may modify the chip
-- and the result of the last poll are those of this history.
abbrev pub beside : (inside : BusState) → (history : List Exchange) → BusState
beside inside history = record (unknown_bus history) {
  chip = inside.chip;
  passed = inside.passed;
  honest = inside.honest;
  worn = inside.worn;
  steady = inside.steady;
  unlimited = inside.unlimited;
  longer = inside.longer;
  further = inside.further;
}

-- Holds if the transactions of `sent`, the allowances, `further` and the result of the last poll are as they were.
pub record KeepsRecord (old new : BusState) : Type 0 where
  pub sent : new.sent ≡ old.sent
  pub allowances : new.allowances ≡ old.allowances
  pub further : new.further ≡ old.further
  pub polled_ready : new.polled_ready ≡ old.polled_ready

abbrev pub last_out : List Exchange → List ℕ
last_out [] = []
last_out (exchange ∷ earlier) = exchange.out

-- Holds if the last transaction is a read of data from `start` on, which succeeded with the reply `answer`.
pub record EndsWithRead (start : ℕ) (answer : List ℕ) (history : List Exchange) : Type 0 where
  pub reads : reads_data (last_out history) ≡ true
  pub address : address_in (last_out history) ≡ start
  pub is : history ≡ replied (last_out history) answer ∷ drop 1 history

-- Holds if the last transaction is a read of data, and returned `bytes` for the addresses from `at` on.
pub record EndsWithData (at : ℕ) (bytes : List ℕ) (history : List Exchange) : Type 0 where
  pub start : ℕ
  pub answer : List ℕ
  pub read : EndsWithRead start answer history
  pub begins : start ≤ at
  pub same : bytes ≡ part answer (at - start) (length bytes)

-- Holds if `len` is 0, or the last transaction read the first `len` bytes of `block` from the address `start` on.
pub record HoldsReply (block : List ℕ) (start len : ℕ) (history : List Exchange) : Type 0 where
  pub reply : 0 < len → EndsWithRead start (take len block) history
