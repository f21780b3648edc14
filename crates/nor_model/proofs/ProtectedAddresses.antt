-- On a chip of an allowed size, the protected addresses are at one end, and their range begins and ends at whole KiB.
use Rattle.std.proofs.Common.{◌≡◌, ℕ, zero, suc, ◌+◌, ◌-◌, ◌*◌, ◌/◌, ◌%◌, ◌^◌, ◌<◌, ◌≤◌, ◌⊎◌, inl, inr, arith, refl}
use Rattle.std.proofs.Common.{◌∙◌}
use Rattle.std.specs.Prelude.{Bool, true, false, not, ◌==◌, ◌&&◌, ◌||◌, ◌↔◌, nat_lt, nat_le, if◌then◌else◌}
use Rattle.std.proofs.lemmas.Bool.{lt-ltb, le-ltb}
use Rattle.std.proofs.lemmas.Bool.Decides.{nat_tests}
use Rattle.nor_model.proofs.Sizes.{IsInBlocks}
use Rattle.nor_model.specs.Offer.{ProtectsExactly}
use Rattle.nor_model.specs.Guard.{protected_by, named_length, is_undefined, is_complement, is_bottom, names_sectors, bp_of}
use Rattle.nor_model.specs.Units.{LieAtAnEnd, HoldsSomewhere, OnFirst, OnLast}

pub record IsPart (size n : ℕ) : Type 0 where
  pub within : n ≤ size
  pub whole : n % 1024 ≡ 0
  pub sectors : size % 262144 ≡ 0 → n % 4096 ≡ 0

part_of : (size : ℕ) (sectors : Bool) (bp : ℕ) → 65536 ≤ size → size % 65536 ≡ 0 → bp < 8
    → IsPart size (if bp == 0 then 0 else if bp == 7 then size else if not sectors then size / 2 ^ (7 - bp)
    else if bp == 1 then 4096 else if bp == 2 then 8192 else if bp == 3 then 16384 else 32768)
part_of size true (suc (suc (suc (suc (suc (suc (suc zero))))))) large blocks small = omega arith
part_of size false (suc (suc (suc (suc (suc (suc (suc zero))))))) large blocks small = omega arith
part_of size _ _ large blocks small = omega arith

named_length-part : (size code : ℕ) → IsInBlocks size → IsPart size (named_length size code)
named_length-part size code are = part_of size (names_sectors code) (bp_of code) are.large are.blocks (omega arith)

part-rest : (size n : ℕ) → size % 65536 ≡ 0 → IsPart size n → IsPart size (size - n)
part-rest size n blocks part = grind arith

address_test : ℕ → ℕ → Bool → Bool → Bool → ℕ → Bool
address_test size named undefined complement bottom a =
    let is_named = if bottom then nat_lt a named else nat_le (size - named) a in
    nat_lt a size && (undefined || (if complement then not is_named else is_named))

not_lt : (a n : ℕ) → not (nat_lt a n) ≡ nat_le n a
not_lt a n = grind (arith, nat_tests)

not_le : (a n : ℕ) → not (nat_le n a) ≡ nat_lt a n
not_le a n = grind (arith, nat_tests)

pub ends_at : {size : ℕ} {test : ℕ → Bool} (border : ℕ) → IsPart size border
    → OnFirst size test border ⊎ OnLast size test border → LieAtAnEnd size test
ends_at border part side =
    record { border = border; within = part.within; whole = part.whole; sectors = part.sectors; side = side }

address_test-end : (size named : ℕ) (undefined complement bottom : Bool) → size % 65536 ≡ 0 → IsPart size named
    → LieAtAnEnd size (address_test size named undefined complement bottom)
unfolding address_test
address_test-end size named true complement bottom blocks part =
    ends_at size (omega arith) (inl (λ a below. grind (arith, nat_tests)))
address_test-end size named false true true blocks part =
    ends_at named part (inr (λ a below. rw (lt-ltb a size below) (not_lt a named)))
address_test-end size named false true false blocks part =
    ends_at (size - named) (part-rest size named blocks part)
    (inl (λ a below. rw (lt-ltb a size below) (not_le a (size - named))))
address_test-end size named false false true blocks part =
    ends_at named part (inl (λ a below. rw (lt-ltb a size below) refl))
address_test-end size named false false false blocks part =
    ends_at (size - named) (part-rest size named blocks part) (inr (λ a below. rw (lt-ltb a size below) refl))

pub protected_by-end : (size code : ℕ) → IsInBlocks size → LieAtAnEnd size (protected_by size code)
unfolding protected_by address_test
protected_by-end size code are =
    address_test-end size (named_length size code) (is_undefined code) (is_complement code) (is_bottom code) are.blocks
    (named_length-part size code are)

pub protected_by-past : (size code a : ℕ) → size ≤ a → protected_by size code a ≡ false
unfolding protected_by
protected_by-past size code a past = rw (le-ltb a size past) refl

alike : (size : ℕ) (test : ℕ → Bool) (a b : ℕ) → LieAtAnEnd size test → a < size → b < size → a / 256 ≡ b / 256
    → test a ≡ test b
alike size test a b ends below_a below_b page =
    let whole = ends.whole in elim ends.side [
      | inl first ↦ grind (arith, nat_tests, first a below_a, first b below_b)
      | inr last ↦ grind (arith, nat_tests, last a below_a, last b below_b)
    ]

pub at_borders : (size : ℕ) (test : ℕ → Bool) (start len a : ℕ) → LieAtAnEnd size test → start + len ≤ size → start ≤ a
    → a < start + len → test a ≡ true → (test start || test (start + len - 1)) ≡ true
at_borders size test start len a ends fits from before holds = elim ends.side [
  | inl first ↦ grind (arith, nat_tests, first a (omega arith), first start (omega arith))
  | inr last ↦ grind (arith, nat_tests, last a (omega arith), last (start + len - 1) (omega arith))
]

pub protected_by-page_of : (size code at : ℕ) → IsInBlocks size → at < size
    → (protected_by size code at ≡ true) ↔ HoldsSomewhere (protected_by size code) (at / 256 * 256) 256
protected_by-page_of size code at are below = (
  (λ protected. record { place = at; from = omega arith; before = omega arith; holds = protected }),
  (λ there. let blocks = are.blocks in
      alike size (protected_by size code) at there.place (protected_by-end size code are) below
      (omega arith) (omega arith) ∙ there.holds),
)

pub record IsSelectedRange (size named : ℕ) (complement bottom : Bool) (start len : ℕ) : Type 0 where
  pub len_is : len ≡ (if complement then size - named else named)
  pub start_is : 0 < len
      → start ≡ (if complement then (if bottom then size - len else 0) else (if bottom then 0 else size - len))

address_test-exactly : (size named : ℕ) (complement bottom : Bool) (start len : ℕ) → named ≤ size
    → IsSelectedRange size named complement bottom start len → (a : ℕ)
    → (address_test size named false complement bottom a ≡ true) ↔ ((start ≤ a) × (a < start + len))
unfolding address_test
address_test-exactly size named complement bottom start len within are a =
    let long = are.len_is in let begin = are.start_is in grind (arith, nat_tests)

pub protects_selected : (size code start len : ℕ) → IsInBlocks size → is_undefined code ≡ false
    → IsSelectedRange size (named_length size code) (is_complement code) (is_bottom code) start len
    → ProtectsExactly size code start len
unfolding protected_by address_test
protects_selected size code start len in_blocks defined selected a =
    rw defined (address_test-exactly size (named_length size code) (is_complement code) (is_bottom code) start len
    (named_length-part size code in_blocks).within selected a)
