-- Lemmas about the pieces of a text between its commas, which are parsed one after the other.
use Rattle.std.proofs.Common.{◌≡◌, ◌∙◌, ℕ, ◌+◌, ◌<◌, true, List, [], ◌∷◌, length, drop, get_or, lit<, ap, sym, arith}
use Rattle.std.specs.Str.Iter.{split_has_more, split_pattern, split_steps, split_text}
use Rattle.std.specs.Str.Pattern.{FindsChar}
use Rattle.std.proofs.lemmas.Iterator.{YieldsList}
use Rattle.std.proofs.lemmas.Iterator.Splits.{YieldsList-from_str_split}
use Rattle.std.proofs.lemmas.List.{at_drop_more, at_drop_all}
use Rattle.nor_args.specs.Text.{Text, pieces_of}

pub yields_pieces : {made s : _} (text : Text) → s ≡ made → split_text made ≡ text → split_has_more made ≡ true
    → split_pattern {P = ℕ} made ≡ 44
    → YieldsList (split_steps FindsChar (λ a b. b ≡ a)) (λ x. x.now) s (pieces_of text)
yields_pieces text gives is more pattern = rw gives (YieldsList-from_str_split 44 text (lit< tt) is more pattern)

pub turned : (pieces : List Text) (n : ℕ) (piece : Text) → (n < length pieces) × (piece ≡ get_or pieces n piece)
    → drop n pieces ≡ piece ∷ drop (n + 1) pieces
turned pieces n piece at =
    at_drop_more (λ (left : List Text). left) pieces n piece at.0 ∙ ap (λ p. p ∷ drop (n + 1) pieces) (sym at.1)

pub ended : (pieces : List Text) (n : ℕ) → n ≡ length pieces → drop n pieces ≡ []
ended pieces n all = at_drop_all (λ (left : List Text). left) pieces n (omega (arith, all))
