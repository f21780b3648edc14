-- What a run of the simulation finds: a chip for which the promises of laws.rt (serprog_runs) hold.
use Rattle.std.specs.Prelude.{◌≡◌, ◌⊎◌, ℕ, true, []}
use Rattle.nor_model.specs.declared.config.Config.{Config}
use Rattle.nor_model.specs.Bus.{BusState}
use Rattle.nor_buses.specs.Adapted.{keeps_replies}
use Rattle.nor_probe.specs.Known.{IsGenuine}
use Rattle.nor_serprog.specs.Device.{PortState}
use Rattle.nor_serprog.specs.Replies.{AwaitsCommand}
use Rattle.serprog_board.specs.BoardBus.{ids_with_row}
use Rattle.serprog_board.specs.Reached.{IsModelledBoard, ReachesChip}

-- Holds for a chip as its row in the table of known chips says, with a unique ID.
pub record HasRow (config : Config) : Type 0 where
  pub genuine : IsGenuine true config
  pub replies : keeps_replies ids_with_row config ≡ true

-- Holds for the configurations of the simulated chips: `TINY64`, which has no row, and two chips that have one.
abbrev pub IsSimulated : Config → Type 0
IsSimulated config = (config.size ≡ 65536) ⊎ HasRow config

-- Holds for a well-behaved port that was asked for nothing yet, to an idle programmer. If the chip isn't `TINY64` and
-- isn't busy, the board is as modelled.
pub record IsOpened (port : PortState) : Type 0 where
  pub unasked : port.asked ≡ []
  pub awaits : AwaitsCommand port
  pub modelled : (port.device.chip.config.size ≡ 65536) ⊎ (port.device.chip.busy ≡ 0 → IsModelledBoard port)

-- Holds if a bus with the state `start` reached the chip of such a port. So if the chip isn't `TINY64` and wasn't busy,
-- the premises of `changes_on_boards_can_be_undone` on port, programmer and chip hold.
pub record IsPlayed (start : BusState) : Type 0 where
  pub port : PortState
  pub opened : IsOpened port
  pub reaches : ReachesChip port start
