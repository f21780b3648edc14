-- Addresses that wrap around at the size of the chip, and lists in which some items are replaced.
use Rattle.std.proofs.Common.{◌≡◌, ℕ, List, ◌++◌, length, take, get_or, replicate, inl, inr, ◌+◌, ◌-◌, ◌*◌, ◌/◌, ◌%◌, ◌<◌, ◌≤◌, arith, ◌∙◌}
use Rattle.std.proofs.Math.Nat.{mod-add-div, add-mul-mod_self_left, mod-eq_of_lt}
use Rattle.std.proofs.lemmas.List.{length-take-le, get_or-append_right, get_or_append_left, get_or-take, get_or-replicate, length-replicate}
use Rattle.std.proofs.Math.ListN.{get_or-eq_default}
use Rattle.std.proofs.lemmas.Bool.{cases_lt}
use Rattle.std.specs.Prelude.{slice_index}

pub run_on : (at done i from n : ℕ) → (at + done) % n ≡ from → done ≤ i → from + (i - done) < n
    → (at + i) % n ≡ from + (i - done)
run_on at done i from n place later small =
    let split : at + i ≡ (from + (i - done)) + n * ((at + done) / n) = omega (arith, mod-add-div (at + done) n) in
    rw (split, add-mul-mod_self_left) (mod-eq_of_lt small)

pub run_round : (at done from n : ℕ) → (at + done) % n ≡ from → from < n → (at + (done + (n - from))) % n ≡ 0
run_round at done from n place within =
    let split : at + (done + (n - from)) ≡ 0 + n * ((at + done) / n + 1) = omega (arith, mod-add-div (at + done) n) in
    rw (split, add-mul-mod_self_left) (mod-eq_of_lt (omega arith))

pub written_before : (a : ℕ) (xs ys zs : List ℕ) (i : ℕ) → a ≤ length xs → i < a
    → slice_index (take a xs ++ (ys ++ zs)) i ≡ slice_index xs i
written_before a xs ys zs i fits before =
    get_or_append_left (take a xs) (ys ++ zs) 0 i (omega (arith, length-take-le a xs fits)) ∙ get_or-take a xs i 0 before

pub written_within : (a : ℕ) (xs ys zs : List ℕ) (i : ℕ) → a ≤ length xs → a ≤ i → i < a + length ys
    → slice_index (take a xs ++ (ys ++ zs)) i ≡ slice_index ys (i - a)
written_within a xs ys zs i fits later within =
    get_or-append_right (take a xs) (ys ++ zs) a i 0 (length-take-le a xs fits) later
    ∙ get_or_append_left ys zs 0 (i - a) (omega arith)

pub get_or-replicate_all : {A : Type 0} (n i : ℕ) (x : A) → get_or (replicate n x) i x ≡ x
get_or-replicate_all n i x = elim (cases_lt i n) [
  | inl within ↦ get_or-replicate n i x x within
  | inr past ↦ get_or-eq_default (replicate n x) x (omega (arith, length-replicate n x))
]
