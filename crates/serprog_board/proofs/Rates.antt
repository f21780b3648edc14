-- Lemmas on texts that end with a colon and a decimal number, such as a device with a baud rate.
use Rattle.std.proofs.Common.{◌≡◌, ◌∙◌, ◌+◌, ◌-◌, ◌<◌, ◌≤◌, ℕ, true, false, ◌∷◌, ◌++◌, length, drop, get_or, nat_eq, nat_lt, [], sym, ap, arith, refl, append_assoc, inl, inr, true≢false}
use Rattle.std.specs.Char.{is_digit}
use Rattle.std.specs.Str.{NoCharPasses}
use Rattle.std.specs.Str.Pattern.{RFindsChar, SplitsAroundMatch}
use Rattle.std.proofs.lemmas.List.{length-append, length-drop, get_or-append_right}
use Rattle.std.proofs.lemmas.Bool.{cases_Bool}
use Rattle.std.proofs.lemmas.Bool.Decides.{nat_tests}
use Rattle.std.proofs.lemmas.List.Folds.{list_all_at}
use Rattle.std.proofs.lemmas.Str.Pattern.{NoCharPasses-char}
use Rattle.std.proofs.Math.Seq.{get_or-append_seam, get_or-drop, drop_at}
use Rattle.nor_args.specs.Numbers.{decimal_number}
use Rattle.nor_args.specs.Text.{Text, reads}
use Rattle.serprog_board.specs.Setting.{HasRate, HasNoRate}

colon_at : (text device rate : Text) → HasRate text device rate
    → (length device < length text) × (get_or text (length device) 0 ≡ 58)
colon_at text device rate has = (
  omega (arith, ap length has.parts, length-append device (58 ∷ rate)),
  ap (λ t. get_or t (length device) 0) has.parts ∙ get_or-append_seam device 58 rate 0,
)

no_colon : (rate : Text) (i : ℕ) → reads decimal_number rate ≡ true → i < length rate → get_or rate i 0 ≡ 58 → ⊥
no_colon rate i number inside colon =
    let digit : is_digit (get_or rate i 0) 10 ≡ false = rw colon refl in
    let none = list_all_at (λ d. is_digit d 10) rate i 0 inside digit in
    grind (arith, none, number)

pub rateless_without_colon : (text : Text) → NoCharPasses (λ d. nat_eq d 58) text → HasNoRate text
rateless_without_colon text none = λ device rate has.
    let at = colon_at text device rate has in
    NoCharPasses-char 58 text (length device) none (omega arith) at.0 at.1

not_earlier : (text device rate : Text) (i : ℕ) → HasRate text device rate → i < length text → get_or text i 0 ≡ 58
    → length device < i → ⊥
not_earlier text device rate i has inside colon earlier =
    let parts : text ≡ (device ++ 58 ∷ []) ++ rate = has.parts ∙ sym (append_assoc device (58 ∷ []) rate) in
    let long = length-append device (58 ∷ []) in let all = length-append (device ++ 58 ∷ []) rate in
    let there = get_or-append_right (device ++ 58 ∷ []) rate (length device + 1) i 0 (omega arith) (omega arith) in
    no_colon rate (i - (length device + 1)) has.number (omega (arith, ap length parts))
    (sym there ∙ ap (λ t. get_or t i 0) (sym parts) ∙ colon)

not_later : (text : Text) (j n : ℕ) → NoCharPasses (λ d. nat_eq d 58) (drop j text) → n < length text
    → get_or text n 0 ≡ 58 → n < j
not_later text j n none inside colon = elim (cases_Bool (nat_lt n j)) [
  | inl below ↦ grind (arith, nat_tests)
  | inr above ↦
      let past : j ≤ n = grind (arith, nat_tests) in let at : j + (n - j) ≡ n = omega arith in
      absurd (NoCharPasses-char 58 (drop j text) (n - j) none (omega arith) (omega (arith, length-drop j text))
      (get_or-drop j text (n - j) 0 ∙ ap (λ k. get_or text k 0) at ∙ colon))
]

pub rateless_after_colon : (text before after : Text) → SplitsAroundMatch (RFindsChar 58) text before after
    → reads decimal_number after ≡ false → HasNoRate text
rateless_after_colon text before after split other = λ device rate has.
    let i = split.0 in let j = split.1 in let at = split.2.1 in let colon = colon_at text device rate has in
    let next : j ≡ i + 1 = at.ends in
    let inside : i < length text = omega (arith, next, split) in
    let below = not_later text j (length device) split.2.0 colon.0 colon.1 in
    let same : length device ≡ i = elim (cases_Bool (nat_lt (length device) i)) [
      | inl earlier ↦ absurd (not_earlier text device rate i has inside (at.byte (omega arith)) (grind (arith, nat_tests)))
      | inr not_earlier ↦ grind (arith, nat_tests)
    ] in
    let rest : rate ≡ drop j text =
    sym (drop_at (device ++ 58 ∷ []) rate j (omega (arith, length-append device (58 ∷ []))))
    ∙ ap (drop j) (append_assoc device (58 ∷ []) rate ∙ sym has.parts) in
    true≢false (sym has.number ∙ ap (reads decimal_number) (rest ∙ sym split.4) ∙ other)
