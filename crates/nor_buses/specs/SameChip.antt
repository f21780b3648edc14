-- The fields and the state of a `SameChip`, and how it reads the unique ID again before the first modifying command.
use Rattle.std.specs.Prelude.{◌≡◌, ◌==◌, ◌&&◌, ℕ, Bool, true, false, Option, None, Some, List, [], ◌∷◌, length}
use Rattle.std.specs.Prelude.{if◌then◌else◌}
use Rattle.nor_model.specs.Bus.{BusState}
use Rattle.nor_model.specs.Exchange.{Exchange}
use Rattle.nor_model.specs.History.{replied}
use Rattle.nor_buses.specs.ReadsAs.{beside}
use Rattle.nor_buses.specs.declared.same_chip.SameChip.{SameChip}
use Rattle.nor_buses.specs.declared.same_chip.OtherChip.{OtherChip}

abbrev pub checked_by : {B : Type 0} → SameChip B → B
checked_by same = same.bus

abbrev pub unique_in : {B : Type 0} → SameChip B → Option (List ℕ)
unique_in same = same.unique

abbrev pub has_passed_change : {B : Type 0} → SameChip B → Bool
has_passed_change same = same.has_begun

abbrev pub other_of : {B : Type 0} → SameChip B → Option OtherChip
other_of same = same.other

abbrev pub history_of : {B : Type 0} → SameChip B → List Exchange
history_of same = same.history.exchanges

-- The state of a `SameChip`. A modifying command that was refused counts as sent.
abbrev pub same_chip_state : {B : Type 0} → (inside : B → BusState) → SameChip B → BusState
same_chip_state inside same = beside (inside (checked_by same)) (history_of same)

abbrev pub unique_read : List ℕ
unique_read = 0x4B ∷ 0 ∷ 0 ∷ 0 ∷ 0 ∷ []

abbrev pub reads_unique : (out : List ℕ) → Bool
reads_unique (opcode ∷ w ∷ x ∷ y ∷ z ∷ []) = opcode == 0x4B
reads_unique _ = false

abbrev pub unique_after : (out reply : List ℕ) → (known : Option (List ℕ)) → Option (List ℕ)
unique_after out reply known = if reads_unique out && length reply == 8 then Some reply else known

-- Holds if the unique ID was read again and was still `unique`. If `unique` is `None`, or if a modifying command was
-- passed on before (`begun`), holds if nothing was sent.
pub record IsChecked (begun : Bool) (unique : Option (List ℕ)) (old new : List Exchange) : Type 0 where
  pub later : begun ≡ true → new ≡ old
  pub none : unique ≡ None → new ≡ old
  pub again : (bytes : List ℕ) → begun ≡ false → unique ≡ Some bytes → new ≡ replied unique_read bytes ∷ old

-- Holds if the remembered unique ID (`unique`) is `other.before`, and a second read of the unique ID returned
-- `other.found`, which differs.
pub record FindsOther (unique : Option (List ℕ)) (other : OtherChip) (old new : List Exchange) : Type 0 where
  pub before : unique ≡ Some other.before
  pub differs : other.found ≡ other.before → ⊥
  pub found : new ≡ replied unique_read other.found ∷ old

pub record SendsChecked (begun : Bool) (unique : Option (List ℕ)) (exchange : Exchange) (old new : List Exchange)
    : Type 0 where
  pub between : List Exchange
  pub checked : IsChecked begun unique old between
  pub sent : new ≡ exchange ∷ between
