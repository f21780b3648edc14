-- The layers of the bus to a chip on a board, and the conditions under which this bus is well-behaved.
use Rattle.std.specs.Prelude.{◌≡◌, ℕ, Bool, true, false, List, [], ◌∷◌}
use Rattle.nor_model.specs.declared.bus.Bus.{Ghosts}
use Rattle.nor_model.specs.Bus.{BusState}
use Rattle.nor_model.specs.Sent.{Sent}
use Rattle.nor_serprog.specs.Device.{PortState}
use Rattle.nor_serprog.specs.Modifying.{passed_by}
use Rattle.nor_serprog.specs.declared.programmer.AnyProgrammer.{AnyProgrammer}
use Rattle.nor_buses.specs.Accounted.{accounted_by}
use Rattle.nor_buses.specs.Adapted.{keeps_replies}
use Rattle.nor_buses.specs.KeptQuad.{kept_by}
use Rattle.nor_buses.specs.KnownStatus2.{known_by}
use Rattle.nor_buses.specs.OtherMakers.{adapted_by}
use Rattle.nor_buses.specs.SameChip.{checked_by}
use Rattle.nor_buses.specs.Splitting.{takes_whole}
use Rattle.nor_buses.specs.declared.kept_quad.KeptQuad.{KeptQuad}
use Rattle.nor_buses.specs.declared.known_status2.KnownStatus2.{KnownStatus2}
use Rattle.nor_buses.specs.declared.other_makers.OtherMakers.{OtherMakers}
use Rattle.nor_buses.specs.declared.same_chip.SameChip.{SameChip}
use Rattle.serprog_board.specs.declared.board_bus.BoardBus.{BoardBus}

-- Holds if `passed`, what a bus passed on, is decoded from the bytes that its port was `asked` to send, and perhaps a
-- write enable that waits.
pub record PassesOn (asked : List (List ℕ)) (passed : Sent) : Type 0 where
  pub waits : Bool
  pub is : passed ≡ passed_by waits asked

-- The layers below `Accounted`.
abbrev pub layers_of : {L : Type 0} {over : Ghosts L} → BoardBus L over → L
layers_of board = accounted_by board.layers

-- The bus below the layers that treat other makers' chips.
abbrev pub reader_in : {T : Type 0} {over : Ghosts T} {below : Ghosts (KnownStatus2 T over)}
    → SameChip (OtherMakers (KeptQuad (KnownStatus2 T over) below)) → T
reader_in same = known_by (kept_by (adapted_by (checked_by same)))

-- The greatest number of bytes that a transaction may read.
abbrev pub longest_read_of : {L : Type 0} {over : Ghosts L} → BoardBus L over → ℕ
longest_read_of board = board.longest_read

-- Holds if a new bus with the state `outer` wraps one with the state `inside`.
pub record IsOver (inside outer : BusState) : Type 0 where
  pub chip : outer.chip ≡ inside.chip
  pub further : outer.further ≡ inside.further
  pub steady : outer.steady ≡ inside.steady
  pub passed : outer.passed ≡ inside.passed

-- Holds if a new bus over a port with the state `port` has the state `outer`.
pub record IsOverPort (port : PortState) (outer : BusState) : Type 0 where
  pub honest : outer.honest ≡ port.honest
  pub chip : outer.chip ≡ port.device.chip
  pub further : outer.further ≡ true
  pub steady : outer.steady ≡ false
  pub unlimited : outer.unlimited ≡ true
  pub passed : outer.passed ≡ passed_by false port.asked

-- The IDs of the chips that have a row in the table of known chips.
abbrev pub ids_with_row : List (List ℕ)
ids_with_row =
    (0xEF ∷ 0x40 ∷ 0x16 ∷ [])
    ∷ (0xEF ∷ 0x40 ∷ 0x17 ∷ [])
    ∷ (0xEF ∷ 0x40 ∷ 0x18 ∷ [])
    ∷ (0xEF ∷ 0x60 ∷ 0x16 ∷ [])
    ∷ (0xEF ∷ 0x60 ∷ 0x17 ∷ [])
    ∷ (0xEF ∷ 0x60 ∷ 0x18 ∷ [])
    ∷ (0xEF ∷ 0x70 ∷ 0x16 ∷ [])
    ∷ (0xEF ∷ 0x70 ∷ 0x17 ∷ [])
    ∷ (0xEF ∷ 0x70 ∷ 0x18 ∷ [])
    ∷ []

-- Holds if the bus is well-behaved, and its chip has a row in the table of known chips and a unique ID.
pub record FitsMakers (state : BusState) : Type 0 where
  pub honest : state.honest ≡ true
  pub replies : keeps_replies ids_with_row state.chip.config ≡ true

-- Holds if the port is well-behaved, one transaction of the programmer can send a page program and read a sector, and
-- the chip has a row in the table of known chips and a unique ID.
pub record FitsBoard (programmer : AnyProgrammer) (port : PortState) : Type 0 where
  pub honest : port.honest ≡ true
  pub whole : takes_whole programmer.longest_part programmer.longest_read ≡ true
  pub replies : keeps_replies ids_with_row port.device.chip.config ≡ true
