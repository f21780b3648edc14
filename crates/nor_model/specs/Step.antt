-- One step of the chip: its reply to a transaction, and the effect. An operation has its whole effect at once, and the
-- chip is then busy for any number of polls below 65,536. (W25Q64FV datasheet, instruction descriptions.)
use Rattle.std.specs.Prelude.{◌≡◌, ◌<◌, ◌+◌, ◌-◌, ◌*◌, ◌/◌, ◌%◌, ◌==◌, ◌&&◌, ℕ, Bool, true, false, not, Option, None, Some, List, [], ◌∷◌, length, drop, slice_index, slice_index_or, bit_and, bit_or, nat_lt, nat_le, if◌then◌else◌}
use Rattle.nor_model.specs.declared.config.Config.{Config}
use Rattle.nor_model.specs.declared.command.Command.{Command}
use Rattle.nor_model.specs.declared.command.Command.TheVariants.{WriteEnable, WriteDisable, Poll, ReadStatus2, WriteStatus, Program, Erase, ReadData, ReadId, ReadSfdp, ReadUnique, Ignored}
use Rattle.nor_model.specs.declared.running.Running.{Running}
use Rattle.nor_model.specs.declared.running.Running.TheVariants as Runs
use Rattle.nor_model.specs.Chip.{Chip, KeptBits, status1_of, status2_of, is_locked, sfdp_byte}
use Rattle.nor_model.specs.Guard.{is_protected, is_block_protected}
use Rattle.nor_model.specs.Command.{command_of}

abbrev pub is_idle : Chip → Bool
is_idle chip = chip.busy == 0

-- True if the chip carries the command out. A busy chip carries out only the two status reads. A program stays within
-- one page, which is protected as a whole or not at all, so only its address `at` is tested.
abbrev pub is_carried_out : Chip → Command → Bool
is_carried_out chip Poll = true
is_carried_out chip ReadStatus2 = true
is_carried_out chip (WriteStatus one two) = is_idle chip && chip.latch && not (is_locked chip.kept)
is_carried_out chip (Program at) = is_idle chip && chip.latch && not (is_protected chip at)
is_carried_out chip (Erase start len) = is_idle chip && chip.latch && not (is_block_protected chip start len)
is_carried_out chip Ignored = false
is_carried_out chip _ = is_idle chip

abbrev pub done_of : Chip → (out : List ℕ) → (replies : ℕ) → Command
done_of chip out replies =
    let command = command_of chip.config out replies in if is_carried_out chip command then command else Ignored

-- Byte `i` of the reply to the command. A read of data that reaches the end of the chip continues at address 0. The
-- reply is FFh past the end of the ID, of the SFDP bytes or of the unique ID, and for a command that reads nothing.
abbrev pub reply_byte : Chip → Command → (i : ℕ) → ℕ
reply_byte chip Poll i = status1_of chip
reply_byte chip ReadStatus2 i = status2_of chip
reply_byte chip (ReadData at) i = chip.bytes ((at + i) % chip.config.size)
reply_byte chip ReadId i = slice_index_or chip.config.id i 255
reply_byte chip (ReadSfdp at) i = sfdp_byte chip.config (at + i)
reply_byte chip ReadUnique i = slice_index_or chip.config.unique i 255
reply_byte chip _ i = 255

-- The last byte of `sent` for the address `a`, if a program begins at the address `at` of the same page. After the last
-- address of the page comes its first one.
unfoldable pub last_for : (at : ℕ) → (sent : List ℕ) → (a : ℕ) → Option ℕ
last_for at [] a = None
last_for at (byte ∷ sent) a = elim (last_for (at + 1) sent a) [
  | Some later ↦ Some later
  | None ↦ (if at % 256 == a % 256 then Some byte else None)
]

abbrev pub lowered : (old : ℕ) → Option ℕ → ℕ
lowered old None = old
lowered old (Some byte) = bit_and old byte

abbrev pub byte_after : Chip → Command → (sent : List ℕ) → (a : ℕ) → ℕ
byte_after chip (Program at) sent a =
    if a / 256 == at / 256 then lowered (chip.bytes a) (last_for at sent a) else chip.bytes a
byte_after chip (Erase start len) sent a = if nat_le start a && nat_lt a (start + len) then 255 else chip.bytes a
byte_after chip _ sent a = chip.bytes a

abbrev pub cmp_qe_srp1 : ℕ
cmp_qe_srp1 = 0b1000011

abbrev pub lb3_to_lb1 : ℕ
lb3_to_lb1 = 0b0111000

abbrev pub lb3_to_reserved : ℕ
lb3_to_reserved = 0b0111100

-- The non-volatile status bits after the command. A status write can't clear an LB bit or change the reserved bit.
abbrev pub kept_after : Chip → Command → KeptBits
kept_after chip (WriteStatus one two) = record {
  one = one / 4;
  two = bit_or (bit_and two cmp_qe_srp1) (bit_or (bit_and chip.kept.two lb3_to_reserved) (bit_and two lb3_to_lb1));
}
kept_after chip _ = chip.kept

abbrev pub is_operation : Command → Bool
is_operation (WriteStatus one two) = true
is_operation (Program at) = true
is_operation (Erase start len) = true
is_operation _ = false

abbrev pub BusyAfter : Chip → Command → (busy : ℕ) → Type 0
BusyAfter chip (WriteStatus one two) busy = busy < 65536
BusyAfter chip (Program at) busy = busy < 65536
BusyAfter chip (Erase start len) busy = busy < 65536
BusyAfter chip Poll busy = busy ≡ chip.busy - 1
BusyAfter chip _ busy = busy ≡ chip.busy

-- The write enable latch after the command. An operation clears the latch when it ends: at once if `busy` is 0,
-- otherwise at the poll that shows the last BUSY.
abbrev pub latch_after : Chip → Command → (busy : ℕ) → Bool
latch_after chip WriteEnable busy = true
latch_after chip WriteDisable busy = false
latch_after chip (WriteStatus one two) busy = not (busy == 0)
latch_after chip (Program at) busy = not (busy == 0)
latch_after chip (Erase start len) busy = not (busy == 0)
latch_after chip Poll busy = if chip.busy == 1 then false else chip.latch
latch_after chip _ busy = chip.latch

abbrev pub running_after : Chip → Command → Running
running_after chip (WriteStatus one two) = Runs.StatusWrite chip.kept.one chip.kept.two
running_after chip (Program at) = Runs.Program (at / 256)
running_after chip (Erase start len) = Runs.Erase start len
running_after chip _ = chip.running

-- Holds if the chip carries out `command` (or nothing, for `Ignored`), replies `answer`, and goes from `old` to `new`.
pub record Does (command : Command) (sent : List ℕ) (old : Chip) (answer : List ℕ) (new : Chip) : Type 0 where
  pub replies : (i : ℕ) → i < length answer → slice_index answer i ≡ reply_byte old command i
  pub config : new.config ≡ old.config
  pub bytes : (a : ℕ) → new.bytes a ≡ byte_after old command sent a
  pub kept : new.kept ≡ kept_after old command
  pub busy : BusyAfter old command new.busy
  pub latch : new.latch ≡ latch_after old command new.busy
  pub running : new.running ≡ running_after old command

abbrev pub is_named : Command → Bool
is_named Ignored = false
is_named _ = true

-- True if the transaction is a command of the model.
abbrev pub is_command : Config → (out : List ℕ) → (replies : ℕ) → Bool
is_command config out replies = is_named (command_of config out replies)

-- The bytes of the reply that the model determines: none if the transaction is no command of the model. A real chip
-- replies to some of these. For example, it already reads on while more bytes are sent after the address of a read.
abbrev pub determined : Config → (out answer : List ℕ) → List ℕ
determined config out answer = if is_command config out (length answer) then answer else []

-- Holds if a transaction took the chip from `old` to `new`. The data of a program begin at byte 4, after the address.
abbrev pub Step : (old : Chip) → (out answer : List ℕ) → (new : Chip) → Type 0
Step old out answer new =
    Does (done_of old out (length answer)) (drop 4 out) old (determined old.config out answer) new

abbrev pub wears : Command → (sector : ℕ) → Bool
wears (Erase start len) sector = nat_le start (4096 * sector) && nat_lt (4096 * sector) (start + len)
wears _ sector = false
