-- Definitions for the contracts of `Batch`: a link, and whether a write enable is held back until the next transaction.
use Rattle.std.specs.Prelude.{◌≡◌, ◌≤◌, ℕ, Bool, true}
use Rattle.nor_serprog.specs.declared.batch.Batch.{Batch}
use Rattle.nor_serprog.specs.declared.link.Link.{Link}
use Rattle.nor_serprog.specs.declared.port.Port.{Ghosts}
use Rattle.nor_serprog.specs.Device.{Device, PortState}
use Rattle.nor_serprog.specs.Firmware.{buffer_at}
use Rattle.nor_serprog.specs.Enabled.{enabled_device}
use Rattle.nor_serprog.specs.Link.{is_in_step, IsSettled}

abbrev pub batch_link : {P C : Type 0} {over : Ghosts P C} → Batch P C over → Link P C
batch_link batch = batch.link

abbrev pub waits_in : {P C : Type 0} {over : Ghosts P C} → Batch P C over → Bool
waits_in batch = batch.waits

-- The size of the serial buffer that the programmer reported, or 0 if the programmer lacks Q_SERBUF.
abbrev pub buffer_in : {P C : Type 0} {over : Ghosts P C} → Batch P C over → ℕ
buffer_in batch = batch.buffer

-- The programmer at the port, with its chip as if a write enable that is held back had been carried out.
abbrev pub device_at : {P C : Type 0} {over : Ghosts P C} → Batch P C over → Device
device_at {over = over} batch = enabled_device batch.waits (over.state batch.link.port).device

-- Holds if the link satisfies `IsSettled` and, if the port is well-behaved and the link is in step, the programmer
-- reports a serial buffer of at least `least` bytes.
pub record IsSettledFor {P C : Type 0} (least : ℕ) (port : P → PortState) (link : Link P C) : Type 0 where
  pub settled : IsSettled port link
  pub buffer : (port link.port).honest ≡ true → is_in_step link ≡ true
      → least ≤ buffer_at (port link.port).device.firmware

abbrev pub IsSettledBatch : {P C : Type 0} {over : Ghosts P C} → Batch P C over → Type 0
IsSettledBatch {over = over} batch = IsSettledFor batch.buffer over.state batch.link
