use Rattle.std.proofs.Common.{◌≡◌, ◌∙◌, ◌+◌, ◌<◌, ℕ, List, [], ◌∷◌, ◌++◌, None, Option, Some, ap, arith, get_or, length}
use Rattle.std.proofs.Common.{lit<, map, refl, sym, take}
use Rattle.std.specs.Prelude.{option_map, false, Result, Ok, Err, if◌then◌else◌}
use Rattle.std.specs.Result.{is_err, is_ok}
use Rattle.std.proofs.lemmas.Bool.{false≢true}
use Rattle.std.specs.Borrow.{Bor}
use Rattle.std.specs.List.{filter_map, join_by}
use Rattle.std.proofs.lemmas.Bool.Decides.{nat_tests}
use Rattle.std.proofs.lemmas.List.{append-nil, map-append, take_more}
use Rattle.std.proofs.lemmas.List.Elements.{filter_map-append}
use Rattle.std.proofs.lemmas.List.Folds.{flat_map-map}
use Rattle.std.proofs.lemmas.Str.Pattern.{IsSplitOnceResult, split_once_first}
use Rattle.nor_args.specs.Text.{Text}
use Rattle.std.specs.List.{cons_option}
use Rattle.board_files.specs.Regions.{named_file, pair_in}
use Rattle.board_files.specs.declared.region_files.RegionFile.{RegionFile}

abbrev pub texts_of : Bor Text × Bor Text → Text × Text
texts_of pair = (pair.0.now, pair.1.now)

pub pair_from : (entry : Text) (found : Option (Bor Text × Bor Text)) → IsSplitOnceResult 58 entry found
    → option_map texts_of found ≡ pair_in entry
pair_from entry None split = grind (arith, nat_tests, split_once_first 58 entry None split (lit< tt))
pair_from entry (Some pair) split = grind (arith, nat_tests, split_once_first 58 entry (Some pair) split (lit< tt))

pub joined : (separator : Text) (names : List (Bor Text))
    → join_by (λ name. name.now) separator names ≡ join_by (λ name. name) separator (map (λ name. name.now) names)
joined separator [] = refl
joined separator (name ∷ names) =
    ap (λ (more : Text). name.now ++ more) (sym (flat_map-map (λ y. separator ++ y) (λ name. name.now) names))

pub pairs_more : (entries : List (Bor Text)) (i : ℕ) (d : Bor Text) → i < length entries
    → filter_map pair_in (map (λ entry. entry.now) (take (i + 1) entries))
    ≡ filter_map pair_in (map (λ entry. entry.now) (take i entries))
    ++ filter_map pair_in ((get_or entries i d).now ∷ [])
pairs_more entries i d lt =
    ap (λ (some : List (Bor Text)). filter_map pair_in (map (λ entry. entry.now) some)) (take_more entries i d lt)
    ∙ ap (filter_map pair_in) (map-append (λ entry. entry.now) (take i entries) (get_or entries i d ∷ []))
    ∙ filter_map-append pair_in (map (λ entry. entry.now) (take i entries)) ((get_or entries i d).now ∷ [])

pub pushed : {T E X : Type 0} (result : Result T E) (old more new : List X)
    → new ≡ (if is_ok result then more else old) → is_err result ≡ false → new ≡ more
pushed (Ok _) old more new is ok = is
pushed (Err _) old more new is ok = absurd (false≢true (sym ok))

pub pairs_pushed : (files : List RegionFile) (region : RegionFile) (entries : List (Bor Text)) (i : ℕ) (d : Bor Text)
    → i < length entries
    → map named_file files ≡ filter_map pair_in (map (λ entry. entry.now) (take i entries))
    → Some (named_file region) ≡ pair_in (get_or entries i d).now
    → map named_file (files ++ region ∷ []) ≡ filter_map pair_in (map (λ entry. entry.now) (take (i + 1) entries))
pairs_pushed files region entries i d lt before pair =
    map-append named_file files (region ∷ [])
    ∙ ap (λ (some : List (Text × Text)). some ++ named_file region ∷ []) before
    ∙ ap (λ (some : Option (Text × Text)). filter_map pair_in (map (λ entry. entry.now) (take i entries))
    ++ cons_option some []) pair
    ∙ sym (pairs_more entries i d lt)

pub pairs_skipped : (files : List RegionFile) (entries : List (Bor Text)) (i : ℕ) (d : Bor Text) → i < length entries
    → map named_file files ≡ filter_map pair_in (map (λ entry. entry.now) (take i entries))
    → None ≡ pair_in (get_or entries i d).now
    → map named_file files ≡ filter_map pair_in (map (λ entry. entry.now) (take (i + 1) entries))
pairs_skipped files entries i d lt before pair =
    before
    ∙ sym (append-nil (filter_map pair_in (map (λ entry. entry.now) (take i entries))))
    ∙ ap (λ (some : Option (Text × Text)). filter_map pair_in (map (λ entry. entry.now) (take i entries))
    ++ cons_option some []) pair
    ∙ sym (pairs_more entries i d lt)
