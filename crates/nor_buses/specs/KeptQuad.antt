-- The fields and the state of a `KeptQuad`. This bus hides bit 6 of status 1 if bit 6 is QE.
use Rattle.std.specs.Prelude.{ℕ, Bool, List}
use Rattle.nor_model.specs.declared.bus.Bus.{Ghosts}
use Rattle.nor_model.specs.Bus.{BusState}
use Rattle.nor_model.specs.Exchange.{Exchange}
use Rattle.nor_buses.specs.Bit6.{keeps_bit6}
use Rattle.nor_buses.specs.ReadsAs.{beside}
use Rattle.nor_buses.specs.SomeChips.{only_if}
use Rattle.nor_buses.specs.declared.kept_quad.KeptQuad.{KeptQuad}

abbrev pub kept_by : {B : Type 0} {over : Ghosts B} → KeptQuad B over → B
kept_by kept = kept.bus

abbrev pub rows_of : {B : Type 0} {over : Ghosts B} → KeptQuad B over → List (List ℕ)
rows_of kept = kept.rows.items

-- True if the bus found that bit 6 of status 1 is QE, and therefore hides this bit.
abbrev pub has_quad : {B : Type 0} {over : Ghosts B} → KeptQuad B over → Bool
has_quad kept = kept.has_quad

abbrev pub is_judged : {B : Type 0} {over : Ghosts B} → KeptQuad B over → Bool
is_judged kept = kept.is_judged

abbrev pub history_of : {B : Type 0} {over : Ghosts B} → KeptQuad B over → List Exchange
history_of kept = kept.history.exchanges

abbrev pub hides_of : {B : Type 0} {over : Ghosts B} → KeptQuad B over → Bool
hides_of kept = kept.hides

-- The state of the bus inside, except that it is well-behaved only if bit 6 of its chip is never hidden (`keeps_bit6`).
abbrev pub inside_kept : {B : Type 0} {over : Ghosts B} → KeptQuad B over → BusState
inside_kept {over = over} kept =
    let inside = over.state (kept_by kept) in
    only_if (keeps_bit6 (rows_of kept) (hides_of kept) inside.chip.config) inside

abbrev pub kept_quad_state : {B : Type 0} {over : Ghosts B} → KeptQuad B over → BusState
kept_quad_state kept = beside (inside_kept kept) (history_of kept)
