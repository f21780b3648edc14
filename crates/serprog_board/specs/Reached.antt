-- What a connection over a well-behaved port finds: the chip as it was, on a well-behaved bus.
use Rattle.std.specs.Prelude.{◌≡◌, true, false, if◌then◌else◌}
use Rattle.nor_model.specs.Bus.{BusState}
use Rattle.nor_model.specs.Chip.{Chip, IsSame}
use Rattle.nor_buses.specs.Adapted.{keeps_replies}
use Rattle.nor_buses.specs.Splitting.{takes_whole}
use Rattle.nor_journal.specs.Text.{Content as Journal}
use Rattle.nor_probe.specs.Known.{IsGenuine}
use Rattle.nor_serprog.specs.Device.{PortState}
use Rattle.nor_serprog.specs.Firmware.{Firmware, has_command}
use Rattle.nor_serprog.specs.Identify.{part_limit_of, read_limit, write_limit}
use Rattle.nor_serprog.specs.Replies.{AwaitsCommand}
use Rattle.serprog_board.specs.BoardBus.{ids_with_row}
use Rattle.serprog_board.specs.Looking.{IsRestorableChip}

-- Holds if one transaction of a programmer with this firmware can send a page program and read a sector.
abbrev pub TakesSectors : Firmware → Type 0
TakesSectors firmware = takes_whole (part_limit_of firmware.commands (write_limit firmware)
    (if has_command firmware 0x04 then firmware.buffer else 0)) (read_limit firmware) ≡ true

-- Holds if a bus over this port, which must be well-behaved, is well-behaved: one transaction can send a page program
-- and read a sector, and the chip has a row in the table of known chips and a unique ID.
pub record FitsPort (port : PortState) : Type 0 where
  pub whole : TakesSectors port.device.firmware
  pub replies : keeps_replies ids_with_row port.device.chip.config ≡ true

-- Holds if a bus with the state `start` reached the chip at a well-behaved port, which was in the state `port` when it
-- was opened.
pub record ReachesChip (port : PortState) (start : BusState) : Type 0 where
  pub honest : FitsPort port → start.honest ≡ true
  pub further : start.further ≡ true
  -- A stop may interrupt an operation.
  pub unsteady : start.steady ≡ false
  pub config : start.chip.config ≡ port.device.chip.config
  -- A chip that was idle is as it was, and idle.
  pub same : port.device.chip.busy ≡ 0 → IsSame port.device.chip start.chip
  pub idle : port.device.chip.busy ≡ 0 → start.chip.busy ≡ 0
  -- A journal that could restore an original chip `first` still can.
  pub restorable : (journal : Journal) (first : Chip) → IsRestorableChip true journal first port.device.chip
      → IsRestorableChip true journal first start.chip

-- Holds for a well-behaved port to an idle programmer. The bus over this port is well-behaved (`FitsPort`), and the
-- chip is idle and as its row in the table of known chips says.
pub record IsModelledBoard (port : PortState) : Type 0 where
  pub awaits : AwaitsCommand port
  pub fits : FitsPort port
  pub genuine : IsGenuine true port.device.chip.config
  pub idle : port.device.chip.busy ≡ 0

-- Holds if a port was opened and, if it was well-behaved and its programmer idle, a bus with the state `start` reached
-- its chip.
pub record IsReachedAt {P : Type 0} (state : P → PortState) (start : BusState) : Type 0 where
  pub port : P
  pub reaches : AwaitsCommand (state port) → ReachesChip (state port) start
