use Rattle.std.proofs.Common.{◌≡◌, ℕ, ◌/◌, ◌%◌, List, [], ◌∷◌, ◌++◌, length, slice_index, Option, refl, sym, ap, subst, arith, ◌∙◌}
use Rattle.std.specs.Io.KnownBytes.{Appends}
use Rattle.std.proofs.KnownBytes.{Appends-nil, Appends-trans}
use Rattle.hex.specs.Hex.{encode_with, encode_lower}

encode_with-append : (t xs ys : List ℕ) → encode_with t (xs ++ ys) ≡ encode_with t xs ++ encode_with t ys
unfolding encode_with
encode_with-append t [] ys = refl
encode_with-append t (b ∷ rest) ys =
    ap (λ (l : List ℕ). slice_index t (b / 16) ∷ slice_index t (b % 16) ∷ l) (encode_with-append t rest ys)

pub Appends-none_left : (known : Option (List ℕ)) (rest : List ℕ) → length rest ≡ 0 → Appends known known (encode_lower rest)
unfolding encode_with
Appends-none_left known [] none = Appends-nil known
Appends-none_left known (b ∷ rest) none = absurd (omega (arith, none))

pub Appends-digits : (old mid new : Option (List ℕ)) (bytes piece later digits : List ℕ) → bytes ≡ piece ++ later → digits ≡ encode_lower piece → Appends old mid digits → Appends mid new (encode_lower later) → Appends old new (encode_lower bytes)
Appends-digits old mid new bytes piece later digits is are first second =
    let both = Appends-trans old mid new (encode_lower piece) (encode_lower later) (subst (λ (l : List ℕ). Appends old mid l) are first) second in
    subst (λ (l : List ℕ). Appends old new l) (sym (ap encode_lower is ∙ encode_with-append _ piece later)) both
