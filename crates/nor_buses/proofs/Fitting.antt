-- If `FitsLayers` holds, the layers together are a well-behaved bus.
use Rattle.std.proofs.Common.{◌≡◌, ◌&&◌, ◌+◌, ℕ, Bool, true, List}
use Rattle.std.specs.Prelude.{Option, nat_le}
use Rattle.std.proofs.lemmas.Bool.{le-leb}
use Rattle.nor_model.specs.Bus.{BusState}
use Rattle.nor_buses.specs.Adapted.{keeps_replies}
use Rattle.nor_buses.specs.Bit6.{keeps_bit6}
use Rattle.nor_buses.specs.Listed.{is_listed_chip}
use Rattle.nor_buses.specs.Layers.{FitsLayers}
use Rattle.nor_buses.specs.Splitting.{reads_longer, takes_whole}

pub layers_fit : (longest sends receives : ℕ) (ids : List (List ℕ)) (before : Option (List ℕ)) (rows : List (List ℕ))
    (hides : Bool) (listed : List (List ℕ)) (inside : BusState)
    → FitsLayers longest sends receives ids before rows hides listed inside
    → (((((inside.honest && takes_whole sends receives) && is_listed_chip ids before inside.chip.config)
    && keeps_bit6 rows hides inside.chip.config) && keeps_replies listed inside.chip.config)
    && nat_le longest (4096 + reads_longer receives inside.unlimited inside.longer)) ≡ true
layers_fit longest sends receives ids before rows hides listed inside fits =
    rw (fits.honest, fits.whole, fits.known, fits.bit6, fits.replies) (le-leb _ _ fits.block)
