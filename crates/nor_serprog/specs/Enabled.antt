-- The effect of a transaction over a well-behaved port, together with a write enable that may have been held back.
use Rattle.std.specs.Prelude.{◌≡◌, ◌<◌, ◌≤◌, ◌++◌, ◌&&◌, ◌||◌, ℕ, Bool, true, List, length}
use Rattle.nor_model.specs.Chip.{Chip}
use Rattle.nor_model.specs.Step.{is_idle}
use Rattle.nor_serprog.specs.Asked.{acks, lead_frame}
use Rattle.nor_serprog.specs.Frame.{IsFrame, operation_frame, replies_in}
use Rattle.nor_serprog.specs.Device.{Device, PortState, IsIdle, StepsOnce, IsCut}
use Rattle.nor_serprog.specs.Firmware.{buffer_at}

-- The chip, but with its write enable latch set if a write enable is held back (`waits`) and the chip is idle.
abbrev pub enabled : (waits : Bool) → Chip → Chip
enabled waits chip = record chip { latch = (waits && is_idle chip) || chip.latch }

abbrev pub enabled_device : (waits : Bool) → Device → Device
enabled_device waits device = record device { chip = enabled waits device.chip }

-- Holds if two states of a programmer have equal chips and the same erased sectors (`worn`).
pub record SameChipOf (old new : Device) : Type 0 where
  pub chip : new.chip ≡ old.chip
  pub worn : (s : ℕ) → new.worn s ≡ old.worn s

-- Holds if `frames` are the frame of a write enable, if `waits` is true, and then the frame of the O_SPIOP that sends
-- `out` and reads `replies` bytes (both lengths below 2^24). Two frames must fit into the serial buffer.
pub record SendsBatch (waits : Bool) (out : List ℕ) (replies : ℕ) (frames : List ℕ) (device : Device) : Type 0 where
  pub is : frames ≡ lead_frame waits ++ operation_frame out replies
  pub whole : IsFrame (operation_frame out replies)
  pub reads : replies_in (operation_frame out replies) ≡ replies
  pub fits : waits ≡ true → length frames ≤ buffer_at device.firmware

-- Holds if only the ACK of the write enable was read (if `is_led` is true), or nothing was read (if it is false).
pub record TakesAcks (is_led : Bool) (old new : PortState) : Type 0 where
  pub pending : old.device.pending ≡ acks is_led ++ new.device.pending
  pub begun : new.device.begun ≡ old.device.begun
  pub chip : new.device.chip ≡ old.device.chip
  pub worn : new.device.worn ≡ old.device.worn
  pub firmware : new.device.firmware ≡ old.device.firmware

-- Holds if `out` with the reply `answer` was carried out after the write enable (if `waits`). The programmer is idle.
pub record ExchangedBatch (waits : Bool) (out answer : List ℕ) (old new : PortState) : Type 0 where
  pub idle : IsIdle new.device
  pub firmware : new.device.firmware ≡ old.device.firmware
  pub steps : StepsOnce out answer (enabled_device waits old.device) new.device

-- Holds if the write enable that was held back (if `waits`) or `out` was interrupted, and fewer than three calls of the
-- port are left. A write enable that was not carried out counts as a loss of power, which clears the latch.
pub record InterruptedBatch (waits : Bool) (out : List ℕ) (old new : PortState) : Type 0 where
  pub few : new.left < 3
  pub cut : IsCut out (enabled_device waits old.device) new.device
