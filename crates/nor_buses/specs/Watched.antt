-- The fields and the state of a `Watched`, and how it detects that a chip that seems to be busy lost contact or power.
use Rattle.std.specs.Prelude.{◌≡◌, ◌==◌, ◌&&◌, ◌+◌, ℕ, Bool, true, false, List, [], ◌∷◌, nat_lt, nat_le, not}
use Rattle.std.specs.Prelude.{if◌then◌else◌}
use Rattle.nor_model.specs.Bus.{BusState}
use Rattle.nor_model.specs.Exchange.{Exchange}
use Rattle.nor_model.specs.History.{replied}
use Rattle.nor_buses.specs.ReadsAs.{beside}
use Rattle.nor_buses.specs.declared.watched.Watched.{Watched}

abbrev pub watched_by : {B : Type 0} → Watched B → B
watched_by watched = watched.bus

abbrev pub is_lost : {B : Type 0} → Watched B → Bool
is_lost watched = watched.is_lost

abbrev pub row_in : {B : Type 0} → Watched B → ℕ
row_in watched = watched.row

abbrev pub has_status : {B : Type 0} → Watched B → Bool
has_status watched = watched.has_status

abbrev pub history_of : {B : Type 0} → Watched B → List Exchange
history_of watched = watched.history.exchanges

-- The state `inside`, except that it isn't steady: the bus may stop after a transaction that the chip carried out.
abbrev pub unsteady : BusState → BusState
unsteady inside = record inside { steady = false }

abbrev pub watched_state : {B : Type 0} → (inside : B → BusState) → Watched B → BusState
watched_state inside watched = beside (unsteady (inside (watched_by watched))) (history_of watched)

-- True if a transaction is a poll whose reply is one or two bytes FFh.
abbrev pub is_undriven : (out reply : List ℕ) → Bool
is_undriven (opcode ∷ []) (a ∷ []) = opcode == 0x05 && a == 255
is_undriven (opcode ∷ []) (a ∷ b ∷ []) = opcode == 0x05 && (a == 255 && b == 255)
is_undriven _ _ = false

-- The number of polls in a row that returned only FFh (`is_undriven`), counted after the transaction `out` and at most
-- 256. `row` is this number before the transaction.
abbrev pub row_after : (out reply : List ℕ) → (row : ℕ) → ℕ
row_after out reply row = if is_undriven out reply then (if nat_lt row 256 then row + 1 else 256) else 0

-- The value of `has_status` after one more transaction. `known` is the value before this transaction.
abbrev pub status_after : (out reply : List ℕ) → (known : Bool) → Bool
status_after (opcode ∷ []) (a ∷ []) known = if opcode == 0x05 && not (a == 255) then nat_lt a 252 else known
status_after (opcode ∷ []) (a ∷ b ∷ []) known =
    if opcode == 0x05 && not (a == 255 && b == 255) then nat_lt b 252 else known
status_after _ _ known = known

-- True if at least 256 polls in a row up to this one returned only FFh, and the last other poll ended below FCh.
abbrev pub looks_after : (out reply : List ℕ) → (row : ℕ) → (known : Bool) → Bool
looks_after out reply row known = nat_le 256 (row_after out reply row) && status_after out reply known

-- Holds if exactly one transaction was made: a read of the ID (9Fh).
pub record HasLooked (old new : List Exchange) : Type 0 where
  pub last : Exchange
  pub asks : last.out ≡ 0x9F ∷ []
  pub history : new ≡ last ∷ old

-- Holds if the chip was found to be lost: the ID was read after this transaction (`looks_after`), and was FFFFFFh.
pub record HasFoundLost (out reply : List ℕ) (row : ℕ) (known : Bool) (old new : List Exchange) : Type 0 where
  pub looks : looks_after out reply row known ≡ true
  pub id : new ≡ replied (0x9F ∷ []) (255 ∷ 255 ∷ 255 ∷ []) ∷ replied out reply ∷ old
