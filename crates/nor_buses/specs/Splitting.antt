-- The fields and the state of a `SplittingBus`. This bus splits transactions that exceed the limits of a programmer.
use Rattle.std.specs.Prelude.{◌&&◌, ◌-◌, ℕ, Bool, List, false, min, nat_le, if◌then◌else◌}
use Rattle.nor_model.specs.Bus.{BusState}
use Rattle.nor_model.specs.Exchange.{Exchange}
use Rattle.nor_buses.specs.ReadsAs.{beside}
use Rattle.nor_buses.specs.declared.splitting.SplittingBus.{SplittingBus}

abbrev pub split_of : {B : Type 0} → SplittingBus B → B
split_of splitting = splitting.bus

abbrev pub sends_most : {B : Type 0} → SplittingBus B → ℕ
sends_most splitting = splitting.longest_write

abbrev pub receives_most : {B : Type 0} → SplittingBus B → ℕ
receives_most splitting = splitting.longest_read

abbrev pub history_of : {B : Type 0} → SplittingBus B → List Exchange
history_of splitting = splitting.history.exchanges

-- True if one transaction can send a page program (260 bytes) and read a sector (4,096 bytes).
abbrev pub takes_whole : (sends receives : ℕ) → Bool
takes_whole sends receives = nat_le 260 sends && nat_le 4096 receives

-- The greatest number of bytes by which a read can exceed 4,096 bytes if it isn't split (it has at most `receives`
-- bytes) and the bus inside takes it (`unlimited`, `longer`).
abbrev pub reads_longer : (receives : ℕ) → (unlimited : Bool) → (longer : ℕ) → ℕ
reads_longer receives unlimited longer = if unlimited then receives - 4096 else min longer (receives - 4096)

-- The state of a bus that splits what the bus inside can't take. This bus is well-behaved if and only if the bus inside
-- is, and `wide` (`takes_whole`) is true.
abbrev pub splits : (wide : Bool) → (receives : ℕ) → (inside : BusState) → (history : List Exchange) → BusState
splits wide receives inside history = record (beside inside history) {
  honest = inside.honest && wide;
  left = inside.left;
  punctual = inside.punctual;
  unlimited = false;
  longer = reads_longer receives inside.unlimited inside.longer;
}

abbrev pub splitting_state : {B : Type 0} → (inside : B → BusState) → SplittingBus B → BusState
splitting_state inside splitting =
    splits (takes_whole (sends_most splitting) (receives_most splitting)) (receives_most splitting)
    (inside (split_of splitting)) (history_of splitting)
