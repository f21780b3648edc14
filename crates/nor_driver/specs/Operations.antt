use Rattle.std.specs.Prelude.{◌≡◌, ◌≢◌, ◌≤◌, ◌+◌, ◌*◌, ◌⊎◌, ◌||◌, ℕ, Bool, true, false, List, [], ◌∷◌, length, drop, take, slice_index}
use Rattle.nor_model.specs.declared.config.Config.{Config}
use Rattle.nor_model.specs.declared.command.Command.{Command}
use Rattle.nor_model.specs.declared.command.Command.TheVariants.{WriteStatus, Program, Erase, Ignored}
use Rattle.nor_model.specs.Chip.{Chip, KeptBits, IsSame}
use Rattle.nor_model.specs.Power.{is_in_work}
use Rattle.nor_model.specs.Command.{command_of}
use Rattle.nor_model.specs.History.{replied}
use Rattle.nor_model.specs.Sent.{with_sent, is_stirred, is_unknown_to_model}
use Rattle.nor_model.specs.Step.{is_idle, is_operation, done_of, byte_after, kept_after, running_after, wears}
use Rattle.nor_model.specs.Bus.{BusState}
use Rattle.nor_driver.specs.declared.waits.Waited.{Waited}
use Rattle.nor_driver.specs.OnlyReads.{KeepsChip, Spent}
use Rattle.nor_driver.specs.Polls.{PollsUntilReady}
use Rattle.nor_driver.specs.Limits.{Limits, limits_of, SendsExactly, Leaves}

-- The greatest number of transactions of an operation: one write enable, one command and 65,536 polls.
abbrev pub most_operation : ℕ
most_operation = 65538

abbrev pub BytesNameAddress : ℕ → List ℕ → Type 0
BytesNameAddress at bytes = 65536 * slice_index bytes 0 + 256 * slice_index bytes 1 + slice_index bytes 2 ≡ at

abbrev pub IsCommandAt : (opcode at : ℕ) → (sent command : List ℕ) → Type 0
IsCommandAt opcode at sent command =
    (x : ℕ) × (y : ℕ) × (z : ℕ) × (65536 * x + 256 * y + z ≡ at) × (command ≡ opcode ∷ x ∷ y ∷ z ∷ sent)

abbrev pub is_operation_or_none : Command → Bool
is_operation_or_none (WriteStatus one two) = true
is_operation_or_none (Program at) = true
is_operation_or_none (Erase start len) = true
is_operation_or_none Ignored = true
is_operation_or_none _ = false

-- Holds if the model knows `out` (at most 260 bytes), if `out` asks each chip for one operation or none, and if each
-- prefix of `out` asks the chip for the same operation or none.
pub record AsksForOperation (out : List ℕ) : Type 0 where
  pub known : is_unknown_to_model out ≡ false
  pub whole : (config : Config) → is_operation_or_none (command_of config out 0) ≡ true
  pub begun : (config : Config) (count replies : ℕ) → (command_of config (take count out) replies ≡ Ignored)
      ⊎ (command_of config (take count out) replies ≡ command_of config out 0)
  pub short : length out ≤ 260

-- Holds if only bytes at `addresses` may have changed: on a steady bus to the byte of `wanted`, otherwise to any value.
abbrev pub ChangesOnly : Bool → (ℕ → Bool) → (wanted old new : ℕ → ℕ) → Type 0
ChangesOnly steady addresses wanted old new =
    (a : ℕ) → (new a ≡ old a) ⊎ ((addresses a ≡ true) × (steady ≡ true → new a ≡ wanted a))

-- Holds after an operation that the chip of a well-behaved bus ignored.
pub record HasIgnored (old new : BusState) : Type 0 where
  pub same : IsSame old.chip new.chip
  pub worn : (s : ℕ) → new.worn s ≡ old.worn s
  pub latch : new.chip.latch ≡ is_idle old.chip

pub record SendsOperation (old new : BusState) (sent : ℕ) : Type 0 where
  pub command : List ℕ
  pub waited : Waited
  pub added : new.sent ≡ with_sent command ((0x06 ∷ []) ∷ old.sent)
  pub history : PollsUntilReady (replied command [] ∷ replied (0x06 ∷ []) [] ∷ old.history) new.history waited
  pub count : sent ≡ waited.polls + 2

-- Holds if exactly one modifying command was sent, a write enable.
abbrev pub SendsEnable : (old new : BusState) → Type 0
SendsEnable old new = new.sent ≡ (0x06 ∷ []) ∷ old.sent

pub record EndsWaiting (old new : BusState) (sent : ℕ) : Type 0 where
  pub sends : SendsOperation old new sent
  pub least : 3 ≤ sent
  pub few : sent ≤ most_operation
  pub polled_ready : new.polled_ready ≡ true
  pub count : old.honest ≡ true → Spent sent old new
  pub idle : old.honest ≡ true → new.chip.busy ≡ 0

-- The command that `chip` carries out if it receives `out` after a write enable, or `Ignored` for none.
abbrev pub operation_of : Chip → List ℕ → Command
operation_of chip out = done_of (record chip { latch = true }) out 0

-- Holds at every exit of an operation that the idle chip of a well-behaved bus can carry out. On a steady bus each byte
-- on which the operation works is as before or after the operation; on any other bus such a byte may have any value.
pub record MayOperate (command : Command) (sent : List ℕ) (old new : BusState) : Type 0 where
  pub config : new.chip.config ≡ old.chip.config
  pub bytes : ChangesOnly old.steady (is_in_work (running_after old.chip command))
      (byte_after old.chip command sent) old.chip.bytes new.chip.bytes
  pub kept : (new.chip.kept ≡ old.chip.kept) ⊎ (new.chip.kept ≡ kept_after old.chip command)
  pub runs : new.chip.busy ≢ 0 → new.chip.running ≡ running_after old.chip command
  pub worn : (s : ℕ) → wears command s ≡ false → new.worn s ≡ old.worn s

pub record HasEnded (content : ℕ → ℕ) (bits : KeptBits) (erased : ℕ → Bool) (old new : BusState) : Type 0 where
  pub config : new.chip.config ≡ old.chip.config
  pub bytes : (a : ℕ) → new.chip.bytes a ≡ content a
  pub kept : new.chip.kept ≡ bits
  pub worn : (s : ℕ) → new.worn s ≡ erased s
  pub latch : new.chip.latch ≡ false

abbrev pub HasOperated : Command → (sent : List ℕ) → (old new : BusState) → Type 0
HasOperated command sent old =
    HasEnded (byte_after old.chip command sent) (kept_after old.chip command) (λ s. old.worn s || wears command s) old

-- An operation, whose modifying commands are within `limits`. A chip carries the operation out if `can` holds for the
-- chip, and ignores it if `ignores` holds. If `can` held on a well-behaved bus, `may` holds for the states before the
-- operation and at every exit, and `has` for the states before the operation and after its success.
pub record ChipOperation : Type 1 where
  pub limits : Limits
  pub can : Chip → Type 0
  pub ignores : Chip → Type 0
  pub may : (old new : BusState) → Type 0
  pub has : (old new : BusState) → Type 0

-- Holds at every exit of `operation`.
pub record LeavesOperation (operation : ChipOperation) (old new : BusState) : Type 0 where
  pub leaves : Leaves most_operation operation.limits operation.can operation.may old new
  pub stirred : is_stirred new.sent ≡ true
  pub ignored : old.honest ≡ true → operation.ignores old.chip → KeepsChip old new

-- Holds after `operation` succeeded with `sent` transactions.
pub record Operates (operation : ChipOperation) (old new : BusState) (sent : ℕ) : Type 0 where
  pub ends : EndsWaiting old new sent
  pub sends : SendsExactly operation.limits.erases operation.limits.programs operation.limits.status_writes old new
  pub done : old.honest ≡ true → operation.can old.chip → operation.has old new
  pub ignored : old.honest ≡ true → operation.ignores old.chip → HasIgnored old new

abbrev pub command_operation : (out : List ℕ) → ChipOperation
command_operation out = record {
  limits = limits_of out;
  can = λ chip. is_operation (operation_of chip out) ≡ true;
  ignores = λ chip. is_operation (operation_of chip out) ≡ false;
  may = λ old new. MayOperate (operation_of old.chip out) (drop 4 out) old new;
  has = λ old new. HasOperated (operation_of old.chip out) (drop 4 out) old new;
}
