-- A bus that reads ahead over a well-behaved bus is well-behaved, if that bus takes its blocks.
use Rattle.std.proofs.Common.{◌≡◌, ◌≤◌, ◌+◌, ◌||◌, ℕ, Bool, true, false, arith, refl}
use Rattle.std.proofs.lemmas.Bool.{le-leb}
use Rattle.nor_model.specs.Bus.{BusState}
use Rattle.nor_model.specs.declared.bus.Bus.{Ghosts}
use Rattle.nor_buses.specs.Ahead.{ahead_of, ahead_state, longest_of}
use Rattle.nor_buses.specs.Blocks.{takes_blocks}
use Rattle.nor_buses.specs.declared.ahead.ReadAhead.{ReadAhead}
use Rattle.serprog_runs.specs.Connected.{IsAhead}

or_right : (a b : Bool) → b ≡ true → a || b ≡ true
or_right true b is = refl
or_right false b is = is

takes : (longest most : ℕ) (inside : BusState) → longest ≤ most → most ≤ 4096 + inside.longer
    → inside.honest ≡ true → takes_blocks longest inside ≡ true
takes longest most inside below most_of honest =
    rw honest (or_right inside.unlimited _ (le-leb _ _ (omega (arith, below, most_of))))

pub is_ahead : {B : Type 0} {over : Ghosts B} (ahead : ReadAhead B over) (most : ℕ) → longest_of ahead ≤ most
    → most ≤ 4096 + (over.state (ahead_of ahead)).longer
    → IsAhead (over.state (ahead_of ahead)) (ahead_state ahead)
is_ahead {over = over} ahead most below most_of = record {
  honest = takes (longest_of ahead) most (over.state (ahead_of ahead)) below most_of;
  chip = refl;
  further = refl;
  steady = refl;
}
