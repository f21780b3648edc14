use Rattle.std.specs.Prelude.{◌≡◌, ◌+◌, ◌*◌, ◌||◌, ℕ, Bool, true, false, Option, None, Some, Result, Ok, Err, List, [], ◌∷◌, bytes_eq, slice_index, IsOk, if◌then◌else◌}
use Rattle.nor_model.specs.declared.config.Config.{Config}
use Rattle.nor_model.specs.Bus.{BusState}
pub use Rattle.nor_driver.specs.Reads.{id_of, shown}
use Rattle.nor_probe.specs.declared.sfdp.Geometry.{Geometry}
use Rattle.nor_probe.specs.declared.sfdp.SfdpFault.{SfdpFault}
use Rattle.nor_probe.specs.declared.table.ChipName.TheVariants.{Sfdp}
use Rattle.nor_probe.specs.declared.table.Part.{Part}
use Rattle.nor_probe.specs.declared.probes.Found.{Found}
use Rattle.nor_probe.specs.declared.probes.ProbeFault.{ProbeFault}
use Rattle.nor_probe.specs.declared.probes.ProbeFault.TheVariants.{NoChip, UnknownChip}
use Rattle.nor_probe.specs.Sfdp.{sfdp_says}
use Rattle.nor_probe.specs.Table.{part_for, IsEmulatedPart, IsMadeOf}

abbrev pub part_in : Found → Part
part_in found =
    record { name = found.name; id = found.id; size = found.size; kinds = found.kinds; scheme = found.scheme }

-- True if the ID is `FF FF FF` or `00 00 00`, which is read if nothing drives the bus: the lines rest high or low.
abbrev pub is_no_chip : (of_id : List ℕ) → Bool
is_no_chip of_id = bytes_eq of_id (0xFF ∷ 0xFF ∷ 0xFF ∷ []) || bytes_eq of_id (0x00 ∷ 0x00 ∷ 0x00 ∷ [])

-- The address that a parameter header contains for its table: three bytes, little-endian (JESD216).
abbrev pub pointer_in : (first : List ℕ) → ℕ
pointer_in first = slice_index first 4 + 256 * slice_index first 5 + 65536 * slice_index first 6

unfoldable pub chip_says : Config → Result Geometry SfdpFault
chip_says config = sfdp_says (shown config 0 8) (shown config 8 8) (shown config (pointer_in (shown config 8 8)) 36)

abbrev pub sfdp_part : (with_id : List ℕ) → Geometry → Part
sfdp_part with_id geometry =
    record { name = Sfdp; id = with_id; size = geometry.size; kinds = geometry.kinds; scheme = false }

abbrev pub part_by_sfdp : (with_id : List ℕ) → Result Geometry SfdpFault → Result Part ProbeFault
part_by_sfdp with_id (Ok geometry) = Ok (sfdp_part with_id geometry)
part_by_sfdp with_id (Err fault) = Err (UnknownChip fault)

abbrev pub listed_or : (by_sfdp : Result Part ProbeFault) → Option Part → Result Part ProbeFault
listed_or by_sfdp (Some part) = Ok part
listed_or by_sfdp None = by_sfdp

-- The chip type that a chip shows, or a fault: the row that applies to its ID (`part_for`) or, without a row, its type
-- by SFDP. `further` says whether the bus has further types.
abbrev pub shown_as : (further : Bool) → Config → Result Part ProbeFault
shown_as further config =
    if is_no_chip (id_of config) then Err NoChip
    else listed_or (part_by_sfdp (id_of config) (chip_says config)) (part_for further (id_of config))

pub record HasGeometry (geometry : Geometry) (config : Config) : Type 0 where
  pub size : config.size ≡ geometry.size
  pub kinds : config.kinds ≡ geometry.kinds

-- Holds for the configuration of a genuine chip on a bus with or without further types (`further`). If a row applies to
-- its ID, the chip has the row's size, erase types and block protection. Otherwise the chip has no block protection
-- and, if its SFDP is accepted, the geometry that the SFDP describes.
pub record IsGenuine (further : Bool) (config : Config) : Type 0 where
  pub listed : (part : Part) → part_for further (id_of config) ≡ Some part
      → HasGeometry (record { size = part.size; kinds = part.kinds }) config × (config.scheme ≡ part.scheme)
  pub unlisted : part_for further (id_of config) ≡ None → config.scheme ≡ false
  pub described : part_for further (id_of config) ≡ None
      → (geometry : Geometry) → chip_says config ≡ Ok geometry → HasGeometry geometry config

pub record IsKnown (further : Bool) (config : Config) : Type 0 where
  pub genuine : IsGenuine further config
  pub shown : IsOk (shown_as further config)

-- Holds for the configuration of an emulated chip whose unique ID is all zeros.
abbrev pub IsEmulated : Config → Type 0
IsEmulated config = (part : Part) × IsEmulatedPart part × IsMadeOf part config

pub record IsModelled (state : BusState) : Type 0 where
  pub honest : state.honest ≡ true
  pub genuine : IsGenuine state.further state.chip.config
