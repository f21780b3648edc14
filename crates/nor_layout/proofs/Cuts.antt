use Rattle.std.proofs.Common.{◌≡◌, ◌≢◌, ℕ, zero, suc, ◌+◌, ◌-◌, ◌<◌, List, [], ◌∷◌, length, get_or, take, drop, Some}
use Rattle.std.proofs.Common.{None, refl, add-one, arith}
use Rattle.std.proofs.lemmas.Bool.{eq-eqb}
use Rattle.std.proofs.lemmas.List.{take_rest}
use Rattle.std.proofs.lemmas.Bool.Decides.{nat_tests}
use Rattle.nor_layout.specs.Line.{cut_at}
use Rattle.nor_layout.specs.Steps.{IsFirst}

cut_at-here : (byte : ℕ) (text : List ℕ) (i : ℕ) → i < length text → get_or text i 0 ≡ byte → ((k : ℕ) → k < i → get_or text k 0 ≢ byte) → cut_at byte text ≡ Some (take i text, drop (suc i) text)
cut_at-here byte [] i lt here before = absurd (omega arith)
cut_at-here byte (b ∷ text) zero lt here before = rw (eq-eqb b byte here) refl
cut_at-here byte (b ∷ text) (suc i) lt here before =
    grind (arith, nat_tests, before 0, cut_at-here byte text i (omega arith) here (λ k h. before (suc k) (omega arith)))

pub cut_at-first : (byte : ℕ) (text : List ℕ) (i : ℕ) → IsFirst byte text i → cut_at byte text ≡ Some (take i text, take (length text - (i + 1)) (drop (i + 1) text))
cut_at-first byte text i first =
    rw (take_rest text (i + 1), add-one) (cut_at-here byte text i first.within first.here first.before)

pub cut_at-nowhere : (byte : ℕ) (text : List ℕ) → ((k : ℕ) → k < length text → get_or text k 0 ≢ byte) → cut_at byte text ≡ None
cut_at-nowhere byte [] none = refl
cut_at-nowhere byte (b ∷ text) none =
    grind (arith, nat_tests, none 0, cut_at-nowhere byte text (λ k h. none (suc k) (omega arith)))
