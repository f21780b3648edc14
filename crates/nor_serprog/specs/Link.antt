-- Definitions for the contracts of `Link`, a link to a programmer.
use Rattle.std.specs.Prelude.{◌≡◌, ◌<◌, Bool, true, false}
use Rattle.nor_serprog.specs.declared.link.Link.{Link}
use Rattle.nor_serprog.specs.declared.link.Sync.{Sync}
use Rattle.nor_serprog.specs.declared.link.Sync.TheVariants.{InStep, Lost, Cut}
use Rattle.nor_serprog.specs.Device.{PortState, IsIdle}

abbrev pub port_of : {P C : Type 0} → Link P C → P
port_of link = link.port

abbrev pub sync_of : {P C : Type 0} → Link P C → Sync
sync_of link = link.sync

-- True if the link is in step, so that each reply can be matched to its frame.
abbrev pub is_in_step : {P C : Type 0} → Link P C → Bool
is_in_step link = elim link.sync [ InStep ↦ true | Lost ↦ false | Cut ↦ false ]

-- True if a frame may have been sent only in part.
abbrev pub is_cut : {P C : Type 0} → Link P C → Bool
is_cut link = elim link.sync [ InStep ↦ false | Lost ↦ false | Cut ↦ true ]

-- Holds if, for a well-behaved port, the link is in step and the programmer is idle, or the link is out of step and
-- fewer than three calls of the port are left. Always holds for any other port.
pub record IsSettled {P C : Type 0} (port : P → PortState) (link : Link P C) : Type 0 where
  pub idle : (port link.port).honest ≡ true → is_in_step link ≡ true → IsIdle (port link.port).device
  pub spent : (port link.port).honest ≡ true → is_in_step link ≡ false → (port link.port).left < 3
