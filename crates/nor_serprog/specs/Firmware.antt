-- The firmware of a programmer, and its replies to the commands other than O_SPIOP (flashrom's
-- Documentation/serprog-protocol.txt: the table of commands and its notes).
use Rattle.std.specs.Prelude.{◌≡◌, ◌<◌, ◌/◌, ◌%◌, ◌^◌, ◌++◌, ◌==◌, ℕ, Bool, true, false, List, [], ◌∷◌, Option, None, Some, IfSome, length, replicate, slice_index, if◌then◌else◌, ⊤}
use Rattle.std.proofs.Common.{refl, lit<}
use Rattle.nor_serprog.specs.declared.command.Command.{Command}
use Rattle.nor_serprog.specs.declared.command.Command.TheVariants.{Nop, QueryInterface, QueryCommands, QueryName, QuerySerialBuffer, QueryBuses, QueryLongestWrite, SyncNop, QueryLongestRead, SetBuses, Operate, SetFrequency, SetPins, SelectChip}
use Rattle.nor_serprog.specs.Frame.{frame_of, three_of, four_of}

-- The replies of a programmer to the queries, and the settings that it accepts. No command changes its firmware.
pub record Firmware : Type 0 where
  pub version : ℕ
  pub commands : List ℕ
  pub name : List ℕ
  pub buffer : ℕ
  -- the flags of the types of bus: 1 parallel, 2 LPC, 4 FWH, 8 SPI (Q_BUSTYPE)
  pub buses : ℕ
  -- the greatest numbers of bytes that an O_SPIOP may send and may read; 0 means 2^24 (Q_WRNMAXLEN, Q_RDNMAXLEN)
  pub longest_write : ℕ
  pub longest_read : ℕ
  -- whether the programmer acknowledges S_BUSTYPE, S_PIN_STATE or S_SPI_CS with the given argument
  pub takes_buses : (flags : ℕ) → Bool
  pub takes_pins : (enabled : Bool) → Bool
  pub takes_select : (number : ℕ) → Bool
  -- the clock in hertz that the programmer sets if S_SPI_FREQ requests `hertz`, or `None` if the programmer replies NAK
  pub clock : (hertz : ℕ) → Option ℕ
  pub version_fits : version < 65536
  pub commands_len : length commands ≡ 32
  pub name_len : length name ≡ 16
  pub buffer_fits : buffer < 65536
  pub buses_fit : buses < 256
  pub write_fits : longest_write < 16777216
  pub read_fits : longest_read < 16777216
  pub clock_fits : (hertz : ℕ) → IfSome (clock hertz) (λ set. set < 4294967296)

-- True if the map `commands` has the command `opcode`: command `n` is bit `n % 8` of byte `n / 8`.
abbrev pub is_in_map : (commands : List ℕ) → (opcode : ℕ) → Bool
is_in_map commands opcode = slice_index commands (opcode / 8) / 2 ^ (opcode % 8) % 2 == 1

abbrev pub has_command : Firmware → (opcode : ℕ) → Bool
has_command firmware opcode = is_in_map firmware.commands opcode

-- The size of the serial buffer that the programmer reports (Q_SERBUF), or 0 if the programmer lacks the query.
abbrev pub buffer_at : Firmware → ℕ
buffer_at firmware = if has_command firmware 0x04 then firmware.buffer else 0

abbrev pub two_of : ℕ → List ℕ
two_of n = n % 256 ∷ n / 256 % 256 ∷ []

abbrev pub nak : List ℕ
nak = 0x15 ∷ []

-- The reply to the query `opcode`: ACK and `bytes`, or NAK if the programmer lacks the query.
abbrev pub queried : Firmware → (opcode : ℕ) → (bytes : List ℕ) → List ℕ
queried firmware opcode bytes = if has_command firmware opcode then 0x06 ∷ bytes else nak

abbrev pub taken : Bool → List ℕ
taken accepts = if accepts then 0x06 ∷ [] else nak

abbrev pub clocked : Option ℕ → List ℕ
clocked (Some set) = 0x06 ∷ four_of set
clocked None = nak

-- The reply of a programmer with this firmware to the whole frame of a command for which `HasReply` holds. For O_SPIOP,
-- the list is empty (`OperatesFrame` specifies that reply).
abbrev pub reply_of : Firmware → Command → List ℕ
reply_of firmware Nop = 0x06 ∷ []
reply_of firmware QueryInterface = 0x06 ∷ two_of firmware.version
reply_of firmware QueryCommands = 0x06 ∷ firmware.commands
reply_of firmware QueryName = queried firmware 0x03 firmware.name
reply_of firmware QuerySerialBuffer = queried firmware 0x04 (two_of firmware.buffer)
reply_of firmware QueryBuses = queried firmware 0x05 (firmware.buses ∷ [])
reply_of firmware QueryLongestWrite = queried firmware 0x08 (three_of firmware.longest_write)
reply_of firmware SyncNop = 0x15 ∷ 0x06 ∷ []
reply_of firmware QueryLongestRead = queried firmware 0x11 (three_of firmware.longest_read)
reply_of firmware (SetBuses flags) = taken (firmware.takes_buses flags)
reply_of firmware (SetFrequency hertz) = clocked (firmware.clock hertz)
reply_of firmware (SetPins enabled) = taken (firmware.takes_pins enabled)
reply_of firmware (SelectChip number) = taken (firmware.takes_select number)
reply_of firmware (Operate out replies) = []

-- Holds if `reply_of` specifies the reply to this command. O_SPIOP is excluded, and so is each command that has
-- arguments and that the programmer lacks, because it would treat the arguments as commands.
abbrev pub HasReply : Firmware → Command → Type 0
HasReply firmware (SetBuses flags) = has_command firmware 0x12 ≡ true
HasReply firmware (SetFrequency hertz) = has_command firmware 0x14 ≡ true
HasReply firmware (SetPins enabled) = has_command firmware 0x15 ≡ true
HasReply firmware (SelectChip number) = has_command firmware 0x16 ≡ true
HasReply firmware (Operate out replies) = ⊥
HasReply firmware _ = ⊤

-- The settings of a programmer, except its clock and its chip select.
pub record ProgrammerSettings : Type 0 where
  -- the flags of the last S_BUSTYPE that the programmer acknowledged; `None` if it acknowledged none
  pub bus_type : Option ℕ
  -- true if the last S_PIN_STATE that the programmer acknowledged switched the pin drivers on
  pub pins_on : Bool

-- The settings after a whole frame of a command. They change only if the programmer acknowledges the command.
abbrev pub settings_after : Firmware → Command → ProgrammerSettings → ProgrammerSettings
settings_after firmware (SetBuses flags) settings =
    if firmware.takes_buses flags then record settings { bus_type = Some flags } else settings
settings_after firmware (SetPins enabled) settings =
    if firmware.takes_pins enabled then record settings { pins_on = enabled } else settings
settings_after firmware _ settings = settings

abbrev pub settings_after_all : Firmware → List Command → ProgrammerSettings → ProgrammerSettings
settings_after_all firmware [] settings = settings
settings_after_all firmware (command ∷ rest) settings =
    settings_after_all firmware rest (settings_after firmware command settings)

abbrev pub frames_of : List Command → List ℕ
frames_of [] = []
frames_of (command ∷ rest) = frame_of command ++ frames_of rest

abbrev pub replies_of : Firmware → List Command → List ℕ
replies_of firmware [] = []
replies_of firmware (command ∷ rest) = reply_of firmware command ++ replies_of firmware rest

abbrev pub HaveReplies : Firmware → List Command → Type 0
HaveReplies firmware [] = ⊤
HaveReplies firmware (command ∷ rest) = HasReply firmware command × HaveReplies firmware rest

abbrev pub unknown_firmware : Firmware
unknown_firmware = record {
  version = 0;
  commands = replicate 32 0;
  name = replicate 16 0;
  buffer = 0;
  buses = 0;
  longest_write = 0;
  longest_read = 0;
  takes_buses = λ flags. false;
  takes_pins = λ enabled. false;
  takes_select = λ number. false;
  clock = λ hertz. None;
  version_fits = lit< tt;
  commands_len = refl;
  name_len = refl;
  buffer_fits = lit< tt;
  buses_fit = lit< tt;
  write_fits = lit< tt;
  read_fits = lit< tt;
  clock_fits = λ hertz. tt;
}
