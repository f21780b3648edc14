-- Lemmas about the stops in the value of `--rehearse`, which are parsed one after the other.
use Rattle.std.proofs.Common.{◌≡◌, ℕ, ◌+◌, ◌<◌, ◌≤◌, ◌&&◌, List, [], ◌∷◌, ◌++◌, Option, Some}
use Rattle.std.proofs.Common.{None, length, drop, get_or, cond, arith, nat_le}
use Rattle.std.specs.Prelude.{filter_map}
use Rattle.std.specs.List.{list_all}
use Rattle.std.proofs.lemmas.Bool.Decides.{nat_tests}
use Rattle.std.proofs.lemmas.List.{append-nil, append_assoc, length_push}
use Rattle.nor_args.specs.Text.{Text, pieces_of, reads}
use Rattle.nor_args.specs.Numbers.{decimal_number}
use Rattle.nor_args.specs.Stops.{stops_of}
use Rattle.nor_args.proofs.InTurn.{turned}

abbrev pub with_stops : List ℕ → List Text → Option (List ℕ)
with_stops stops pieces = cond (list_all (reads decimal_number) pieces && nat_le (length stops + length pieces) 64)
    (Some (stops ++ filter_map decimal_number pieces)) None

module _ (stops : List ℕ) (pieces : List Text) (n : ℕ) (piece : Text)
    (at : (n < length pieces) × (piece ≡ get_or pieces n piece)) where
  pub stops-refused : decimal_number piece ≡ None → with_stops stops (drop n pieces) ≡ None
  stops-refused other = rw (turned pieces n piece at) (grind arith)

  pub stops-full : 64 ≤ length stops → with_stops stops (drop n pieces) ≡ None
  stops-full full = rw (turned pieces n piece at) (grind (arith, nat_tests))

  pub stops-added : (x : ℕ) → decimal_number piece ≡ Some x
      → with_stops stops (drop n pieces) ≡ with_stops (stops ++ x ∷ []) (drop (n + 1) pieces)
  stops-added x number = rw (turned pieces n piece at) (grind (arith, length_push stops x, append_assoc stops (x ∷ [])))

pub stops-ended : (stops : List ℕ) → length stops ≤ 64 → with_stops stops [] ≡ Some stops
stops-ended stops few = grind (arith, nat_tests, append-nil stops)

pub stops_of-with : (text : Text) → with_stops [] (pieces_of text) ≡ stops_of text
stops_of-with text = grind arith
