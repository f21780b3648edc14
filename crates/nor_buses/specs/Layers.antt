-- The conditions under which the layers around a bus to a programmer are together a well-behaved bus.
use Rattle.std.specs.Prelude.{◌≡◌, ◌≤◌, ◌+◌, ℕ, Bool, true, List, Option}
use Rattle.nor_model.specs.Bus.{BusState}
use Rattle.nor_buses.specs.Adapted.{keeps_replies}
use Rattle.nor_buses.specs.Bit6.{keeps_bit6}
use Rattle.nor_buses.specs.Listed.{is_listed_chip}
use Rattle.nor_buses.specs.Splitting.{reads_longer, takes_whole}

-- Holds if the bus to the programmer is well-behaved, and its limits and its chip fit the layers. `longest` is the
-- length of the longest block of `ReadAhead`. `sends` and `receives` are the limits of `SplittingBus`. `ids` and
-- `before` belong to `KnownStatus2`, `rows` and `hides` to `KeptQuad`. `listed` is the list `rows` of `OtherMakers`.
pub record FitsLayers (longest sends receives : ℕ) (ids : List (List ℕ)) (before : Option (List ℕ))
    (rows : List (List ℕ)) (hides : Bool) (listed : List (List ℕ)) (inside : BusState) : Type 0 where
  pub honest : inside.honest ≡ true
  pub whole : takes_whole sends receives ≡ true
  pub block : longest ≤ 4096 + reads_longer receives inside.unlimited inside.longer
  pub known : is_listed_chip ids before inside.chip.config ≡ true
  pub bit6 : keeps_bit6 rows hides inside.chip.config ≡ true
  pub replies : keeps_replies listed inside.chip.config ≡ true
