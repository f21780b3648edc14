-- The values of a repeated option can be joined as borrowed texts or as their bytes, with the same result.
use Rattle.std.proofs.Common.{◌≡◌, ◌∙◌, List, [], ◌∷◌, ◌++◌, Some, ap, codes, map, option_map, refl}
use Rattle.std.specs.Borrow.{Bor}
use Rattle.std.specs.List.{flat_map, join_by}
use Rattle.clap.specs.Words.{matched_of, raw_values, rows_of}
use Rattle.clap.specs.declared.parser.matches.Found.{Found}
use Rattle.clap.proofs.WalkLemmas.{raw_values-rows}
use Rattle.nor_args.specs.Text.{Text}
use Rattle.nor_args.specs.Given.{joined_in}

further-same : (separator : Text) (texts : List (Bor Text))
    → flat_map (λ text. separator ++ text.now) texts
    ≡ flat_map (λ text. separator ++ text) (map (λ (text : Bor Text). text.now) texts)
further-same separator [] = refl
further-same separator (text ∷ texts) = ap (λ rest. (separator ++ text.now) ++ rest) (further-same separator texts)

pub joined-same : (separator : Text) (texts : List (Bor Text))
    → join_by (λ (text : Bor Text). text.now) separator texts
    ≡ join_by (λ text. text) separator (map (λ (text : Bor Text). text.now) texts)
joined-same separator [] = refl
joined-same separator (text ∷ texts) = ap (λ rest. text.now ++ rest) (further-same separator texts)

pub joined-found : (found : Found) (id : Text) (values : List (Bor Text)) (joined : Text)
    → Some (map (λ (text : Bor Text). text.now) values) ≡ option_map raw_values (matched_of found id)
    → joined ≡ join_by (λ (text : Bor Text). text.now) (codes ",") values → Some joined ≡ joined_in (rows_of found) id
joined-found found id values joined given is =
    ap Some (is ∙ joined-same (codes ",") values)
    ∙ ap (option_map (join_by (λ (text : Text). text) (codes ","))) (given ∙ raw_values-rows found id)
