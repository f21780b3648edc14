-- Definitions for the simulated port, which contracts use.
use Rattle.std.specs.Prelude.{◌≡◌, ◌≤◌, ◌++◌, ◌==◌, ◌||◌, ℕ, true, false, List, [], ◌∷◌, Option, None, Some, length, replicate, slice_index, if◌then◌else◌}
use Rattle.std.proofs.Common.{refl, lit<}
use Rattle.nor_model.specs.Bus.{BusState}
use Rattle.nor_chip.specs.declared.sim.SimBus.{SimBus}
use Rattle.nor_serprog.specs.Device.{Device, PortState}
use Rattle.nor_serprog.specs.Frame.{IsFrame, replies_in}
use Rattle.nor_serprog.specs.Firmware.{Firmware, ProgrammerSettings, nak}
use Rattle.serprog_session.specs.declared.sim_port.SimPort.{SimPort}

abbrev pub simulated_chip : SimPort → SimBus
simulated_chip port = port.chip

abbrev pub left_of : SimPort → ℕ
left_of port = port.left

-- The firmware of the simulated programmer, with SPI, a serial buffer of 512 bytes, and reads of at most 4,096 bytes.
abbrev pub simulated_firmware : Firmware
simulated_firmware = record {
  version = 1;
  commands = 0x17 ∷ 0 ∷ 0x0F ∷ replicate 29 0;
  name = replicate 16 0;
  buffer = 512;
  buses = 8;
  longest_write = 0;
  longest_read = 4096;
  takes_buses = λ flags. true;
  takes_pins = λ enabled. false;
  takes_select = λ number. false;
  clock = λ hertz. None;
  version_fits = lit< tt;
  commands_len = refl;
  name_len = refl;
  buffer_fits = lit< tt;
  buses_fit = lit< tt;
  write_fits = lit< tt;
  read_fits = lit< tt;
  clock_fits = λ hertz. tt;
}

-- Holds if the bytes are one whole frame of O_SPIOP.
abbrev pub IsOneFrame : List ℕ → Type 0
IsOneFrame bytes = IsFrame bytes × (slice_index bytes 0 ≡ 0x13)

-- Holds if `first` and `second` are whole frames of O_SPIOP and `first` requests no reply bytes.
pub record AreOperations (first second : List ℕ) : Type 0 where
  pub former : IsOneFrame first
  pub unanswered : replies_in first ≡ 0
  pub latter : IsOneFrame second

-- Holds if `bytes` are the frames `first` and `second` of O_SPIOP (`AreOperations`) and fit into the serial buffer.
pub record ArePair (first second bytes : List ℕ) : Type 0 where
  pub is : bytes ≡ first ++ second
  pub operations : AreOperations first second
  pub fits : length bytes ≤ 512

-- The reply of the simulated programmer to a frame that begins with `opcode`. This doesn't apply to a frame of O_SPIOP
-- that is sent alone or with one other (`ArePair`): its reply is ACK and the bytes that the chip returned.
abbrev pub simulated_reply : (opcode : ℕ) → List ℕ
simulated_reply opcode =
    if opcode == 0x00 || opcode == 0x12 then 0x06 ∷ []
    else if opcode == 0x01 then 0x06 ∷ 1 ∷ 0 ∷ []
    else if opcode == 0x02 then 0x06 ∷ 0x17 ∷ 0 ∷ 0x0F ∷ replicate 29 0
    else if opcode == 0x04 then 0x06 ∷ 0 ∷ 2 ∷ []
    else if opcode == 0x10 then 0x15 ∷ 0x06 ∷ []
    else if opcode == 0x11 then 0x06 ∷ 0 ∷ 0x10 ∷ 0 ∷ []
    else nak

-- The type of bus that is selected after `frame`. Only S_BUSTYPE (12h) selects one.
abbrev pub bus_type_after : (frame : List ℕ) → (before : Option ℕ) → Option ℕ
bus_type_after frame before = if slice_index frame 0 == 0x12 then Some (slice_index frame 1) else before

-- The settings of the simulated programmer. Its pin drivers are never switched on, because it lacks S_PIN_STATE.
abbrev pub simulated_settings : (bus_type : Option ℕ) → ProgrammerSettings
simulated_settings bus_type = record { bus_type = bus_type; pins_on = false }

-- A simulated programmer with the chip of this bus and the bytes `pending` not yet received. It keeps no part of a
-- frame from one call of the port to the next, so `begun` is empty.
abbrev pub device_over : BusState → (bus_type : Option ℕ) → (pending : List ℕ) → Device
device_over bus bus_type pending = record {
  chip = bus.chip;
  worn = bus.worn;
  firmware = simulated_firmware;
  settings = simulated_settings bus_type;
  begun = [];
  pending = pending;
}

-- A well-behaved port to the simulated programmer with the chip of this bus.
abbrev pub port_over : BusState → (bus_type : Option ℕ) → (pending : List ℕ) → (left : ℕ) → (asked : List (List ℕ))
    → (received : List ℕ) → PortState
port_over bus bus_type pending left asked received = record {
  device = device_over bus bus_type pending;
  left = left;
  honest = true;
  asked = asked;
  received = received;
}
