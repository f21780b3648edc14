-- The result of the handshake with a programmer (flashrom's Documentation/serprog-protocol.txt).
use Rattle.std.specs.Prelude.{◌≡◌, ◌<◌, ◌⊎◌, ◌-◌, ◌==◌, ◌&&◌, ◌||◌, not, nat_lt, bit_and, min, max, ℕ, Bool, true, List, [], ◌∷◌, length, slice_index, Option, None, Some, option_and_then, replicate, if◌then◌else◌, Result, IfOk, OnOk, OnErr, IfErr}
use Rattle.std.specs.Option.{option_or}
use Rattle.nor_serprog.specs.declared.programmer.HandshakeFault.{HandshakeFault}
use Rattle.nor_serprog.specs.declared.programmer.HandshakeFault.TheVariants.{Failure, Version, Lacks, NotSpi, WriteLimit, ReadLimit, SmallBuffer}
use Rattle.nor_serprog.specs.declared.programmer.Programmer.{Programmer}
use Rattle.nor_serprog.specs.declared.programmer.Least.{Least}
use Rattle.nor_serprog.specs.declared.programmer.AnyProgrammer.{AnyProgrammer}
use Rattle.nor_serprog.specs.declared.link.Failure.TheVariants.{Refused}
use Rattle.nor_serprog.specs.declared.link.Link.{Link}
use Rattle.nor_serprog.specs.Device.{PortState, MayLoseDevicePower, with_settings}
use Rattle.nor_serprog.specs.declared.command.Command.{Command}
use Rattle.nor_serprog.specs.Frame.{frame_of}
use Rattle.nor_serprog.specs.Firmware.{Firmware, ProgrammerSettings, has_command, is_in_map, reply_of, settings_after, nak}
use Rattle.nor_serprog.specs.Link.{is_in_step}
use Rattle.nor_serprog.specs.Replies.{AwaitsCommand, OnlyAsks, IsPortFailure}

-- The flags of the types of bus that the programmer supports. Without Q_BUSTYPE, SPI (8) is assumed.
abbrev pub buses_of : Firmware → ℕ
buses_of firmware = if has_command firmware 0x05 then firmware.buses else 8

-- The given limit of a programmer in bytes, or 2^24 if the programmer lacks the query for the limit, or the limit is 0.
abbrev pub limit_in : (has_query : Bool) → (limit : ℕ) → ℕ
limit_in has_query limit = if has_query && not (limit == 0) then limit else 16777216

abbrev pub write_limit : Firmware → ℕ
write_limit firmware = limit_in (has_command firmware 0x08) firmware.longest_write

abbrev pub read_limit : Firmware → ℕ
read_limit firmware = limit_in (has_command firmware 0x11) firmware.longest_read

-- The greatest number of bytes that a transaction may send: `writes` or, with Q_SERBUF (04h) but without Q_WRNMAXLEN
-- (08h), at most `buffer` minus the 7 other bytes of the frame, but at least 5.
abbrev pub part_limit_of : (commands : List ℕ) → (writes buffer : ℕ) → ℕ
part_limit_of commands writes buffer =
    if is_in_map commands 0x08 then writes
    else if is_in_map commands 0x04 then max (min writes (buffer - 7)) 5 else writes

-- Holds if `programmer` has the values that a handshake with this firmware returns if it requests the clock `hertz`.
pub record IsAnyProgrammerOf (firmware : Firmware) (hertz : Option ℕ) (programmer : AnyProgrammer) : Type 0 where
  pub name : programmer.name ≡ (if has_command firmware 0x03 then firmware.name else replicate 16 0)
  pub writes : programmer.longest_write ≡ write_limit firmware
  pub reads : programmer.longest_read ≡ read_limit firmware
  pub parts : programmer.longest_part
      ≡ part_limit_of firmware.commands programmer.longest_write programmer.serial_buffer
  pub buffer : programmer.serial_buffer ≡ (if has_command firmware 0x04 then firmware.buffer else 0)
  pub frequency : programmer.frequency ≡ option_and_then firmware.clock hertz
  pub selects : programmer.selects ≡ has_command firmware 0x16

abbrev pub IsProgrammerOf : (firmware : Firmware) → (hertz : Option ℕ) → Programmer → Type 0
IsProgrammerOf firmware hertz programmer = IsAnyProgrammerOf firmware hertz programmer.reported

abbrev pub refused : {C : Type 0} → (opcode : ℕ) → (has_it accepts : Bool) → Option (HandshakeFault C)
refused opcode has_it accepts = if has_it && not accepts then Some (Failure (Refused opcode)) else None

abbrev pub version_fault : {C : Type 0} → Firmware → Option (HandshakeFault C)
version_fault firmware = if firmware.version == 1 then None else Some (Version firmware.version)

abbrev pub operation_fault : {C : Type 0} → Firmware → Option (HandshakeFault C)
operation_fault firmware = if has_command firmware 0x13 then None else Some (Lacks 0x13)

-- The error `NotSpi`, or `None` if the programmer supports SPI, and SPI is its only type of bus or can be selected with
-- S_BUSTYPE (12h).
abbrev pub buses_fault : {C : Type 0} → Firmware → Option (HandshakeFault C)
buses_fault firmware =
    if not (bit_and (buses_of firmware) 8 == 0) && (buses_of firmware == 8 || has_command firmware 0x12) then None
    else Some (NotSpi (buses_of firmware))

abbrev pub write_fault : {C : Type 0} → Firmware → (least : ℕ) → Option (HandshakeFault C)
write_fault firmware least =
    if nat_lt (write_limit firmware) least then Some (WriteLimit (write_limit firmware)) else None

abbrev pub read_fault : {C : Type 0} → Firmware → (least : ℕ) → Option (HandshakeFault C)
read_fault firmware least =
    if nat_lt (read_limit firmware) least then Some (ReadLimit (read_limit firmware)) else None

-- The error `SmallBuffer` if Q_SERBUF (04h) reports fewer than `least` bytes, and Q_WRNMAXLEN (08h) is missing.
abbrev pub buffer_fault : {C : Type 0} → Firmware → (least : ℕ) → Option (HandshakeFault C)
buffer_fault firmware least =
    if has_command firmware 0x04 && (not (has_command firmware 0x08) && nat_lt firmware.buffer least)
    then Some (SmallBuffer firmware.buffer) else None

abbrev pub clock_refused : {C : Type 0} → Option ℕ → Option (HandshakeFault C)
clock_refused (Some set) = None
clock_refused None = Some (Failure (Refused 0x14))

abbrev pub clock_fault : {C : Type 0} → Firmware → (hertz : Option ℕ) → Option (HandshakeFault C)
clock_fault firmware None = None
clock_fault firmware (Some hertz) =
    if has_command firmware 0x14 then clock_refused (firmware.clock hertz) else Some (Lacks 0x14)

abbrev pub first_handshake_fault : {C : Type 0} → List (Option (HandshakeFault C)) → Option (HandshakeFault C)
first_handshake_fault [] = None
first_handshake_fault (fault ∷ later) = option_or fault (first_handshake_fault later)

-- The least limits with which one transaction can send a page program or read a sector.
abbrev pub whole_limits : Least
whole_limits = record { write = 260; read = 4096; frame = 267 }

-- The least limits for a bus that splits transactions: a program of one byte sends 5 bytes, in a frame of 12 bytes.
abbrev pub part_limits : Least
part_limits = record { write = 5; read = 1; frame = 12 }

-- The errors that the firmware causes in a handshake that requires the limits `least`: one entry for each check, in
-- order, which is `None` if the check succeeds.
abbrev pub identify_faults : {C : Type 0} → Least → Firmware → (hertz : Option ℕ) → List (Option (HandshakeFault C))
identify_faults least firmware hertz =
    version_fault firmware
    ∷ operation_fault firmware
    ∷ buses_fault firmware
    ∷ refused 0x12 (has_command firmware 0x12) (firmware.takes_buses 8)
    ∷ write_fault firmware least.write
    ∷ read_fault firmware least.read
    ∷ buffer_fault firmware least.frame
    ∷ clock_fault firmware hertz
    ∷ refused 0x15 (has_command firmware 0x15) (firmware.takes_pins true)
    ∷ []

abbrev pub least_fault : {C : Type 0} → Least → Firmware → (hertz : Option ℕ) → Option (HandshakeFault C)
least_fault least firmware hertz = first_handshake_fault (identify_faults least firmware hertz)

abbrev pub identify_fault : {C : Type 0} → Firmware → (hertz : Option ℕ) → Option (HandshakeFault C)
identify_fault firmware hertz = least_fault whole_limits firmware hertz

abbrev pub narrow_fault : {C : Type 0} → Firmware → (hertz : Option ℕ) → Option (HandshakeFault C)
narrow_fault firmware hertz = least_fault part_limits firmware hertz

abbrev pub select_fault : {C : Type 0} → Firmware → (number : ℕ) → Option (HandshakeFault C)
select_fault firmware number =
    if has_command firmware 0x16 then refused 0x16 true (firmware.takes_select number) else Some (Lacks 0x16)

abbrev pub settings_if_offered : Firmware → (opcode : ℕ) → Command → ProgrammerSettings → ProgrammerSettings
settings_if_offered firmware opcode command settings =
    if has_command firmware opcode then settings_after firmware command settings else settings

-- The settings after a successful handshake: SPI (8) is selected and the pin drivers are on. If the programmer lacks
-- the command for a setting, this setting is unchanged.
abbrev pub prepared_settings : Firmware → ProgrammerSettings → ProgrammerSettings
prepared_settings firmware settings = record {
  bus_type = if has_command firmware 0x12 then Some 8 else settings.bus_type;
  pins_on = if has_command firmware 0x15 then true else settings.pins_on;
}

abbrev pub prepared_port : PortState → PortState
prepared_port port = with_settings (prepared_settings port.device.firmware port.device.settings) port

abbrev pub IsPortFault : {C : Type 0} → HandshakeFault C → Type 0
IsPortFault (Failure failure) = IsPortFailure failure
IsPortFault _ = ⊥

-- Holds for the result of a part of the handshake with at most `calls` calls, over a well-behaved port to an idle
-- programmer. `fault` is the error that the firmware causes, if any. `old` is the state before this part, but with the
-- settings that the programmer has after success.
pub record Concludes {T C : Type 0} (calls : ℕ) (fault : Option (HandshakeFault C)) (IsValue : T → Type 0)
    (result : Result T (HandshakeFault C)) (old new : PortState) : Type 0 where
  pub usable : OnOk result (fault ≡ None)
  pub value : IfOk result IsValue
  pub asks : OnOk result (OnlyAsks calls old new)
  -- an error is `fault`, or a failure of the port because fewer than `calls` calls were left
  pub fails : IfErr result (λ found. (fault ≡ Some found) ⊎ (IsPortFault found × (old.left < calls)))
  pub power : OnErr result (MayLoseDevicePower old.device new.device)

pub record IsInStepWith {P C : Type 0} (port : P → PortState) (firmware : Firmware) (link : Link P C) : Type 0 where
  pub in_step : is_in_step link ≡ true
  pub awaits : AwaitsCommand (port link.port)
  pub same : (port link.port).device.firmware ≡ firmware

-- Holds for the result of one exchange of the handshake that sends `command` and requests `count` reply bytes.
pub record Asked {C : Type 0} (firmware : Firmware) (command : Command) (count : ℕ) (reply : List ℕ)
    (result : Result Unit (HandshakeFault C)) (old new : PortState) : Type 0 where
  pub acked : (bytes : List ℕ) → reply_of firmware command ≡ 0x06 ∷ bytes → count ≡ length bytes
      → Concludes 3 None (λ _. reply ≡ bytes) result
      (with_settings (settings_after firmware command old.device.settings) old) new
  pub naked : reply_of firmware command ≡ nak
      → Concludes 3 (Some (Failure (Refused (slice_index (frame_of command) 0)))) (λ _. ⊥) result old new
