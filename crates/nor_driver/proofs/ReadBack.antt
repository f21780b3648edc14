use Rattle.std.proofs.Common.{◌≡◌, ◌≢◌, ◌*◌, ◌/◌, ◌++◌, ◌∙◌, ℕ, Bool, true, false, Option, List, [], ◌∷◌, length, refl, sym, ap, arith, inl, inr}
use Rattle.std.proofs.lemmas.Bool.{cases_eq}
use Rattle.std.specs.Prelude.{if◌then◌else◌}
use Rattle.std.proofs.lemmas.Bool.Decides.{nat_tests}
use Rattle.std.proofs.lemmas.List.{append_assoc}
use Rattle.std.proofs.lemmas.List.Elements.{All-nil}
use Rattle.nor_model.specs.Exchange.{Exchange}
use Rattle.nor_model.specs.History.{Continues, Answered, names, replied, last_reply, bytes_or_none}
use Rattle.nor_driver.specs.ReadBack.{sector_read, IsSectorRead, AddsSectorReads, HaveBeenRead}

pub names_other : (opcode at other : ℕ) → at ≢ other → (out : List ℕ) → names opcode at out ≡ true
    → names opcode other out ≡ false
names_other opcode at other differs [] is = refl
names_other opcode at other differs (first ∷ []) is = refl
names_other opcode at other differs (first ∷ x ∷ []) is = refl
names_other opcode at other differs (first ∷ x ∷ y ∷ []) is = refl
names_other opcode at other differs (first ∷ x ∷ y ∷ z ∷ rest) is = grind (arith, nat_tests)

pub adds_none : (history : List Exchange) → AddsSectorReads history history
adds_none history = record { later = []; is = refl; each = All-nil IsSectorRead }

module _ {n : ℕ} (out bytes : List ℕ) (reads : names 0x03 (4096 * n) out ≡ true)
    (earlier : List Exchange) (a : ℕ) where
  pub read_other : a / 4096 ≢ n → sector_read (replied out bytes ∷ earlier) a ≡ sector_read earlier a
  read_other other = ap (λ (b : Bool). if b then bytes else sector_read earlier a)
      (names_other 0x03 (4096 * n) (4096 * (a / 4096)) (λ same. other (omega (arith, same))) out reads)

  pub read_here : a / 4096 ≡ n → sector_read (replied out bytes ∷ earlier) a ≡ bytes
  read_here here =
      let test : names 0x03 (4096 * (a / 4096)) out ≡ true = rw here reads in
      ap (λ (b : Bool). if b then bytes else sector_read earlier a) test

by_test : (passes : Bool) (reply : Option (List ℕ)) (rest more : List ℕ)
    → length (if passes then bytes_or_none reply else rest) ≡ 4096 → (length rest ≡ 4096 → more ≡ rest)
    → (if passes then bytes_or_none reply else more) ≡ (if passes then bytes_or_none reply else rest)
by_test true reply rest more long same = refl
by_test false reply rest more long same = same long

last_in_front : (is : List ℕ → Bool) (front old : List Exchange) → length (last_reply is front) ≡ 4096
    → last_reply is (front ++ old) ≡ last_reply is front
last_in_front is [] old long = absurd (omega arith)
last_in_front is (x ∷ rest) old long = by_test (is x.out) x.reply (last_reply is rest) (last_reply is (rest ++ old)) long
    (last_in_front is rest old)

pub none_read : (Addresses : ℕ → Type 0) (history : List Exchange) → ((a : ℕ) → Addresses a → ⊥)
    → HaveBeenRead Addresses history history
none_read Addresses history none = record { later = []; is = refl; whole = λ a is. absurd (none a is) }

pub fewer_read : {More Fewer : ℕ → Type 0} {old new : List Exchange} → ((a : ℕ) → Fewer a → More a)
    → HaveBeenRead More old new → HaveBeenRead Fewer old new
fewer_read fewer read = record { later = read.later; is = read.is; whole = λ a is. read.whole a (fewer a is) }

pub read_since : {Addresses : ℕ → Type 0} {old mid new : List Exchange} → Continues old mid
    → HaveBeenRead Addresses mid new → HaveBeenRead Addresses old new
read_since {old = old} first read = record {
  later = read.later ++ first.later;
  is = read.is ∙ ap (λ (h : List Exchange). read.later ++ h) first.is ∙ sym (append_assoc read.later first.later old);
  whole = λ a is.
      ap (λ (l : List ℕ). length l) (last_in_front (names 0x03 (4096 * (a / 4096))) read.later first.later (read.whole a is))
      ∙ read.whole a is;
}

pub more_read : {Before After : ℕ → Type 0} {n : ℕ} {bytes : List ℕ} {old mid new : List Exchange}
    → HaveBeenRead Before old mid → Answered (names 0x03 (4096 * n)) mid new bytes → length bytes ≡ 4096
    → ((a : ℕ) → After a → a / 4096 ≢ n → Before a) → HaveBeenRead After old new
more_read {n = n} {bytes = bytes} read answered long others = record {
  later = replied answered.out bytes ∷ read.later;
  is = answered.history ∙ ap (λ (h : List Exchange). replied answered.out bytes ∷ h) read.is;
  whole = λ a is. elim (cases_eq (a / 4096) n) [
    | inl here ↦ ap (λ (l : List ℕ). length l) (read_here {n = n} answered.out bytes answered.asks read.later a here) ∙ long
    | inr other ↦
        ap (λ (l : List ℕ). length l) (read_other {n = n} answered.out bytes answered.asks read.later a other)
        ∙ read.whole a (others a is other)
  ];
}
