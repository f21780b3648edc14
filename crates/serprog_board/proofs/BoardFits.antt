-- The layers of a board's bus are well-behaved if the bus below them and its chip fit (`FitsMakers`).
use Rattle.std.proofs.Common.{◌≡◌, ◌&&◌, ◌||◌, ℕ, Bool, true, false, List, refl}
use Rattle.std.specs.Prelude.{Option}
use Rattle.std.proofs.lemmas.Bool.{and_parts}
use Rattle.nor_model.specs.Bus.{BusState}
use Rattle.nor_buses.specs.Adapted.{keeps_replies}
use Rattle.nor_buses.specs.Bit6.{keeps_bit6}
use Rattle.nor_buses.specs.Listed.{is_id_listed, is_listed_chip, is_same}
use Rattle.nor_buses.specs.SomeChips.{chip_id}
use Rattle.serprog_board.specs.BoardBus.{FitsMakers, ids_with_row}

or_right : (a b : Bool) → b ≡ true → a || b ≡ true
or_right true b is = refl
or_right false b is = is

pub makers_fit : (state : BusState) (ids rows listed : List (List ℕ)) (before : Option (List ℕ)) (hides : Bool)
    → ids ≡ ids_with_row → rows ≡ ids_with_row → listed ≡ ids_with_row → FitsMakers state
    → (((state.honest && is_listed_chip ids before state.chip.config) && keeps_bit6 rows hides state.chip.config)
    && keeps_replies listed state.chip.config) ≡ true
makers_fit state ids rows listed before hides same same' same'' fits =
    let config = state.chip.config in
    let row : is_id_listed ids_with_row (chip_id config) ≡ true = (and_parts _ _ fits.replies).0 in
    let known : is_listed_chip ids_with_row before config ≡ true = or_right (is_same before (chip_id config)) _ row in
    let bit6 : keeps_bit6 ids_with_row hides config ≡ true = or_right _ _ row in
    rw (same, same', same'', fits.honest, known, bit6, fits.replies) refl
