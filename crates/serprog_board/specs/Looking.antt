-- The effect of the calls that only look at the chip of a programmer, before a job begins.
use Rattle.std.specs.Prelude.{◌≡◌, ℕ, Bool, true, Result, OnOk}
use Rattle.nor_model.specs.Chip.{Chip, IsSame}
use Rattle.nor_model.specs.Bus.{BusState}
use Rattle.nor_journal.specs.Text.{Content}
use Rattle.nor_session.specs.Headline.{CanRestore}
use Rattle.nor_serprog.specs.declared.command.Command.{Command}
use Rattle.nor_serprog.specs.declared.command.Command.TheVariants.{Operate, QueryInterface}
use Rattle.nor_serprog.specs.declared.link.Link.{Link}
use Rattle.nor_serprog.specs.Device.{Device, PortState}
use Rattle.nor_serprog.specs.Harmless.{begins_harmless}
use Rattle.nor_serprog.specs.Link.{is_in_step}
use Rattle.nor_serprog.specs.Replies.{AwaitsCommand}

-- Holds if the journal can restore the original chip `first` over every bus whose chip is `chip`, and that has further
-- types if and only if `further` is true.
abbrev pub IsRestorableChip : (further : Bool) → Content → (first chip : Chip) → Type 0
IsRestorableChip further journal first chip = (state : BusState) → state.chip ≡ chip → state.further ≡ further
    → CanRestore journal first state

-- Holds at every exit of calls that only look at the chip of a well-behaved port. A failed call may have interrupted an
-- operation that was in progress before, because the chip may have lost its power.
pub record OnlyLooks (old new : Device) : Type 0 where
  pub config : new.chip.config ≡ old.chip.config
  -- If the chip was idle, its bytes and its non-volatile status bits are as they were.
  pub same : old.chip.busy ≡ 0 → IsSame old.chip new.chip
  -- Each journal that could restore an original chip before the calls still can.
  pub restorable : (further : Bool) (journal : Content) (first : Chip)
      → IsRestorableChip further journal first old.chip → IsRestorableChip further journal first new.chip

-- Holds after calls that only looked at the chip and succeeded: the programmer is idle, the link is in step, and the
-- firmware is the same. A chip that was idle still is.
pub record LooksAndAwaits {P C : Type 0} (port : P → PortState) (old new : Link P C) : Type 0 where
  pub awaits : AwaitsCommand (port new.port)
  pub in_step : is_in_step new ≡ true
  pub firmware : (port new.port).device.firmware ≡ (port old.port).device.firmware
  pub idle : (port old.port).device.chip.busy ≡ 0 → (port new.port).device.chip.busy ≡ 0

-- Holds at the end of calls that only look at the chip: `OnlyLooks` holds and, after success, `LooksAndAwaits`.
pub record EndsLooking {T E P C : Type 0} (port : P → PortState) (result : Result T E)
    (old new : Link P C) : Type 0 where
  pub looks : OnlyLooks (port old.port).device (port new.port).device
  pub done : OnOk result (LooksAndAwaits port old new)

-- Holds if the command is an O_SPIOP whose transaction begins harmlessly, or Q_IFACE, and its reply has `count` bytes
-- after ACK.
abbrev pub IsLook : Command → (count : ℕ) → Type 0
IsLook (Operate out replies) count = (begins_harmless out.now ≡ true) × (count ≡ replies)
IsLook QueryInterface count = count ≡ 2
IsLook _ count = ⊥
