use Rattle.std.proofs.Common.{◌≡◌, ◌&&◌, ℕ, Bool, true, false, not, List, [], ◌∷◌, refl, cond}
use Rattle.std.specs.Prelude.{Some, find, bytes_eq}
use Rattle.std.specs.List.{list_all}
use Rattle.std.proofs.lemmas.Slice.Eq.{bytes_eq-Decides}
use Rattle.nor_probe.specs.declared.table.Part.{Part}
use Rattle.nor_probe.specs.Table.{chips, tiny64, part_with_name, name_text, IsEmulatedPart}
use Rattle.nor_probe.proofs.Configs.{found_has}

abbrev have_own_ids : List Part → Bool
have_own_ids [] = true
have_own_ids (first ∷ parts) = list_all (λ p. not (bytes_eq first.id p.id)) parts && have_own_ids parts

pub not_true : (b : Bool) → not b ≡ true → b ≡ false
not_true true is = absurd (cc)
not_true false is = refl

and_true : (a b : Bool) → (a && b) ≡ true → (a ≡ true) × (b ≡ true)
and_true true true is = (refl, refl)
and_true true false is = absurd (cc)
and_true false b is = absurd (cc)

found_next : (test : Part → Bool) (first : Part) (parts : List Part) (part : Part) (here : Bool)
    → list_all (λ p. not (bytes_eq first.id p.id)) parts ≡ true
    → (find test parts ≡ Some part → find (λ p. bytes_eq p.id part.id) parts ≡ Some part)
    → cond here (Some first) (find test parts) ≡ Some part
    → find (λ p. bytes_eq p.id part.id) (first ∷ parts) ≡ Some part
found_next test first parts part true apart more is =
    let same : first ≡ part = cc in
    rw (← same, (bytes_eq-Decides first.id first.id).1 refl) refl
found_next test first parts part false apart more is =
    let other = (found_has test (λ p. not (bytes_eq first.id p.id)) parts part apart is).1 in
    rw (not_true _ other) (more is)

found_by_id : (test : Part → Bool) (parts : List Part) (part : Part) → have_own_ids parts ≡ true
    → find test parts ≡ Some part → find (λ p. bytes_eq p.id part.id) parts ≡ Some part
found_by_id test [] part own is = absurd (cc)
found_by_id test (first ∷ parts) part own is =
    let (apart, more) = and_true _ _ own in
    found_next test first parts part (test first) apart (found_by_id test parts part more) is

pub named_emulated : (text : List ℕ) (part : Part) → part_with_name text ≡ Some part → IsEmulatedPart part
named_emulated text part is =
    let by_name = λ (p : Part). bytes_eq (name_text p.name) text in
    let other = (found_has by_name (λ p. not (bytes_eq p.id tiny64.id)) chips part refl is).1 in
    rw (not_true _ other) (found_by_id by_name chips part refl is)
