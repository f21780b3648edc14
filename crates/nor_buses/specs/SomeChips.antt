-- The state of a bus that is well-behaved only for some chips.
use Rattle.std.specs.Prelude.{◌&&◌, ◌∷◌, [], ℕ, Bool, List, slice_index_or}
use Rattle.nor_model.specs.Bus.{BusState}
use Rattle.nor_model.specs.declared.config.Config.{Config}

-- The state of the bus inside, except that it counts as well-behaved only if `fits` is true. `fits` must depend only on
-- the chip's configuration and on fixed settings of the bus, so that `fits` never changes.
abbrev pub only_if : (fits : Bool) → (inside : BusState) → BusState
only_if fits inside = record inside { honest = inside.honest && fits }

-- The reply of an idle chip to 9Fh with three reply bytes.
abbrev pub chip_id : Config → List ℕ
chip_id config =
    slice_index_or config.id 0 255 ∷ slice_index_or config.id 1 255 ∷ slice_index_or config.id 2 255 ∷ []
