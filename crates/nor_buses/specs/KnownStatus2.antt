-- The fields and the state of a `KnownStatus2`. This bus sends 35h only to a chip that is known to return status 2.
use Rattle.std.specs.Prelude.{ℕ, Bool, Option, List}
use Rattle.nor_model.specs.declared.bus.Bus.{Ghosts}
use Rattle.nor_model.specs.Bus.{BusState}
use Rattle.nor_model.specs.Exchange.{Exchange}
use Rattle.nor_buses.specs.Listed.{is_listed_chip}
use Rattle.nor_buses.specs.ReadsAs.{beside}
use Rattle.nor_buses.specs.SomeChips.{only_if}
use Rattle.nor_buses.specs.declared.known_status2.KnownStatus2.{KnownStatus2}

abbrev pub known_by : {B : Type 0} {over : Ghosts B} → KnownStatus2 B over → B
known_by known = known.bus

abbrev pub has_status2 : {B : Type 0} {over : Ghosts B} → KnownStatus2 B over → Bool
has_status2 known = known.is_known

abbrev pub ids_of : {B : Type 0} {over : Ghosts B} → KnownStatus2 B over → List (List ℕ)
ids_of known = known.ids.items

abbrev pub before_of : {B : Type 0} {over : Ghosts B} → KnownStatus2 B over → Option (List ℕ)
before_of known = known.before

abbrev pub history_of : {B : Type 0} {over : Ghosts B} → KnownStatus2 B over → List Exchange
history_of known = known.history.exchanges

-- The state of the bus inside, except that it is well-behaved only if its chip has an ID of `ids` or the ID `before`.
abbrev pub inside_known : {B : Type 0} {over : Ghosts B} → KnownStatus2 B over → BusState
inside_known {over = over} known =
    let inside = over.state (known_by known) in
    only_if (is_listed_chip (ids_of known) (before_of known) inside.chip.config) inside

abbrev pub known_status2_state : {B : Type 0} {over : Ghosts B} → KnownStatus2 B over → BusState
known_status2_state known = beside (inside_known known) (history_of known)
