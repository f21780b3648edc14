-- Lemmas: the simulated chips, and the port over each, are as the promises about chips on boards require.
use Rattle.std.proofs.Common.{◌≡◌, ◌⊎◌, ℕ, true, List, [], ◌∷◌, refl, subst, sym, inl, inr}
use Rattle.std.specs.Prelude.{None}
use Rattle.nor_model.specs.declared.config.Config.{Config}
use Rattle.nor_model.specs.Bus.{BusState}
use Rattle.nor_model.specs.Makers.{IsW25q64fv, IsW25q128fv}
use Rattle.nor_probe.proofs.Emulated.{further_known, renumbered_known}
use Rattle.nor_serprog.specs.Device.{PortState}
use Rattle.nor_serprog.specs.Replies.{AwaitsCommand}
use Rattle.serprog_board.specs.Reached.{ReachesChip}
use Rattle.serprog_session.specs.SimPort.{port_over}
use Rattle.simulated_runs.specs.Played.{HasRow, IsOpened, IsPlayed, IsSimulated}

abbrev number : List ℕ
number = 0x5A ∷ 1 ∷ 2 ∷ 3 ∷ 4 ∷ 5 ∷ 6 ∷ 7 ∷ []

pub small_has_row : (config : Config) → IsW25q64fv config → HasRow (record config { unique = number })
small_has_row config made = record {
  genuine = (renumbered_known true config number (further_known _ config refl made)).genuine;
  replies = rw made.id refl;
}

pub large_has_row : (config : Config) → IsW25q128fv config → HasRow (record config { unique = number })
large_has_row config made = record {
  genuine = (renumbered_known true config number (further_known _ config refl made)).genuine;
  replies = rw made.id refl;
}

waiting : (bus : BusState) (left : ℕ) → AwaitsCommand (port_over bus None [] left [] [])
waiting bus left = record { honest = refl; idle = record { begun = refl; pending = refl } }

pub opened : (bus : BusState) (left : ℕ) → IsSimulated bus.chip.config → IsOpened (port_over bus None [] left [] [])
opened bus left (inl small) = record { unasked = refl; awaits = waiting bus left; modelled = inl small }
opened bus left (inr row) = record {
  unasked = refl;
  awaits = waiting bus left;
  modelled = inr (λ idle. record {
    awaits = waiting bus left;
    fits = record { whole = refl; replies = row.replies };
    genuine = row.genuine;
    idle = idle;
  });
}

pub played : (port first : PortState) (start : BusState) → port ≡ first → IsOpened first
    → (AwaitsCommand port → ReachesChip port start) → IsPlayed start
played port first start same opened reaches =
    let there : IsOpened port = subst (λ (state : PortState). IsOpened state) (sym same) opened in
    record { port = port; opened = there; reaches = reaches there.awaits }
