-- The fields and the state of a `ReadTwice`, and which reads it repeats. This bus carries out reads twice.
use Rattle.std.specs.Prelude.{◌≡◌, ◌==◌, ◌||◌, ℕ, Bool, false, Option, None, Some, List, [], ◌∷◌}
use Rattle.std.proofs.Common.{Vec, Global}
use Rattle.nor_buses.specs.ReadsAs.{around}
use Rattle.nor_buses.specs.Again.{RepeatsDiffering, CarriesDiffering}
use Rattle.nor_model.specs.Bus.{BusState, Carries}
use Rattle.nor_model.specs.Exchange.{Exchange}
use Rattle.nor_model.specs.History.{replied}
use Rattle.nor_buses.specs.declared.twice.ReadTwice.{ReadTwice}

abbrev pub twice_of : {B : Type 0} → ReadTwice B → B
twice_of twice = twice.bus

abbrev pub has_differed : {B : Type 0} → ReadTwice B → Bool
has_differed twice = twice.differed

abbrev pub expected_of : {B : Type 0} → ReadTwice B → Option (Vec ℕ Global)
expected_of twice = twice.expected

-- Holds if an image is expected, and each byte of `answer` that differs from the image was read again.
abbrev pub RepeatsUnexpected : {B : Type 0} → ReadTwice B → (out answer : List ℕ) → (old new : List Exchange) → Type 0
RepeatsUnexpected twice out answer old new = elim twice.expected [
  | None ↦ ⊥
  | Some image ↦ RepeatsDiffering image.items out answer old new
]

abbrev pub CarriesUnexpected : {B : Type 0} → ReadTwice B → (out answer : List ℕ) → (old new : BusState) → Type 0
CarriesUnexpected twice out answer old new = elim twice.expected [
  | None ↦ ⊥
  | Some image ↦ CarriesDiffering image.items out answer old new
]

abbrev pub history_of : {B : Type 0} → ReadTwice B → List Exchange
history_of twice = twice.history.exchanges

abbrev pub twice_state : {B : Type 0} → (inside : B → BusState) → ReadTwice B → BusState
twice_state inside twice = around (inside (twice_of twice)) (history_of twice)

-- True if the first byte of `out` is the opcode of a read of data, of the ID, of SFDP or of the unique ID.
abbrev pub begins_read : (out : List ℕ) → Bool
begins_read [] = false
begins_read (opcode ∷ rest) = opcode == 0x03 || opcode == 0x9F || opcode == 0x5A || opcode == 0x4B

pub record ReadsTwice (out answer : List ℕ) (old new : BusState) : Type 0 where
  pub between : BusState
  pub first : Carries out answer old between
  pub again : Carries out answer between new

abbrev pub EndsTwice : (out answer : List ℕ) → (old new : List Exchange) → Type 0
EndsTwice out answer old new = new ≡ replied out answer ∷ replied out answer ∷ old
