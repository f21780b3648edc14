use Rattle.std.proofs.Common.{◌≡◌, ◌<◌, ◌≤◌, ◌+◌, ◌*◌, ◌/◌, ◌%◌, ◌∙◌, ℕ, Bool, true, false, ◌&&◌, List, length, slice_index}
use Rattle.std.proofs.Common.{Option, ap, sym, arith, inl, inr, refl, bit_and}
use Rattle.std.specs.Int.Bits.{and_self}
use Rattle.std.specs.Prelude.{if◌then◌else◌, ◌==◌, nat_lt}
use Rattle.std.proofs.Math.Bool.{and-false}
use Rattle.std.proofs.lemmas.Bool.{both_ways, cases_lt, ne_eqb, eq-eqb, le-ltb, lt-ltb, not_from_false, not_from_true}
use Rattle.nor_model.specs.Bus.{BusState}
use Rattle.nor_driver.specs.ReadsInTurn.{HasOnlyRead}
use Rattle.nor_driver.specs.Reads.{IsSectorOf, ReadsSector}
use Rattle.nor_layout.specs.declared.ranges.Span.{Span}
use Rattle.nor_layout.specs.Sectors.{includes}
use Rattle.nor_plan.specs.Plan.{AreBytesOf, IsPlan}
use Rattle.nor_plan.specs.declared.plan.SectorPlan.{SectorPlan}
use Rattle.nor_plan.specs.Content.{is_other, must_rise, is_touched, is_raised}
use Rattle.nor_request.specs.declared.request.Request.{Request}
use Rattle.nor_request.specs.declared.request.What.{What}
use Rattle.nor_request.specs.declared.request.What.TheVariants.{Write, Erase, WpRange}
use Rattle.nor_request.specs.Request.{is_data, target, is_requested}
use Rattle.nor_scan.specs.Scanning.{wanted_at, ScansSector}
use Rattle.nor_driver.specs.OnlyReads.{IsOpen}
use Rattle.nor_geometry.specs.Below.{any_below}
use Rattle.nor_geometry.proofs.Counting.{any_below-all}
use Rattle.nor_geometry.proofs.Verdicts.{any_below-decided}

pub may_change-included : (request : Request) (size a : ℕ) → is_data request.what ≡ true → a < size → is_requested request size a ≡ includes request.included a
may_change-included request size a about_bytes below =
    ap (λ (b : Bool). b && (nat_lt a size && includes request.included a)) about_bytes
    ∙ ap (λ (b : Bool). b && includes request.included a) (lt-ltb a size below)

pub wanted-kept : (request : Request) (image : List ℕ) (size : ℕ) (content : ℕ → ℕ) (a : ℕ) → is_requested request size a ≡ false → wanted_at request image size content a ≡ content a
wanted-kept request image size content a fixed = ap (λ (b : Bool). if b then target request.what image a else content a) fixed

other : (a b : ℕ) → (a ≡ b → ⊥) → is_other a b ≡ true
other a b differ = not_from_false (a == b) (ne_eqb a b differ)

as_wanted : (a b : ℕ) → a ≡ b → is_other a b ≡ false
as_wanted a b same = not_from_true (a == b) (eq-eqb a b same)

verdicts : (here target_bytes : ℕ → ℕ) (plan : SectorPlan) → IsPlan here target_bytes 4096 plan
    → (plan.touched ≡ any_below 4096 (λ i. is_other (here i) (target_bytes i)))
    × (plan.raised ≡ any_below 4096 (λ i. must_rise (here i) (target_bytes i)))
verdicts here target_bytes plan is = (
  any_below-decided 4096 plan.touched (λ i. is_other (here i) (target_bytes i)) (λ i. here i ≡ target_bytes i → ⊥) (λ i. here i ≡ target_bytes i)
      (λ i. other (here i) (target_bytes i)) (λ i. as_wanted (here i) (target_bytes i)) is.touched,
  any_below-decided 4096 plan.raised (λ i. must_rise (here i) (target_bytes i)) (λ i. bit_and (target_bytes i) (here i) ≡ target_bytes i → ⊥)
      (λ i. bit_and (target_bytes i) (here i) ≡ target_bytes i) (λ i. other (bit_and (target_bytes i) (here i)) (target_bytes i))
      (λ i. as_wanted (bit_and (target_bytes i) (here i)) (target_bytes i)) is.raised,
)

pub planned : (content target_bytes : ℕ → ℕ) (sector : ℕ) (plan : SectorPlan) → IsPlan (λ i. content (4096 * sector + i)) (λ i. target_bytes (4096 * sector + i)) 4096 plan
    → (plan.touched ≡ is_touched content target_bytes sector) × (plan.raised ≡ is_raised content target_bytes sector)
unfolding is_touched is_raised
planned content target_bytes sector plan = verdicts (λ i. content (4096 * sector + i)) (λ i. target_bytes (4096 * sector + i)) plan

pub untouched : (content target_bytes : ℕ → ℕ) (sector : ℕ) → ((i : ℕ) → i < 4096 → target_bytes (4096 * sector + i) ≡ content (4096 * sector + i)) → is_touched content target_bytes sector ≡ false
unfolding is_touched
untouched content target_bytes sector same = any_below-all 4096 _ (λ i below. as_wanted _ _ (sym (same i below)))

pub unraised : (content target_bytes : ℕ → ℕ) (sector : ℕ) → ((i : ℕ) → i < 4096 → target_bytes (4096 * sector + i) ≡ content (4096 * sector + i)) → is_raised content target_bytes sector ≡ false
unfolding is_raised
unraised content target_bytes sector same = any_below-all 4096 _
    (λ i below. as_wanted _ _ (ap (bit_and (target_bytes (4096 * sector + i))) (sym (same i below)) ∙ and_self _))

past_kept : (request : Request) (image : List ℕ) (size : ℕ) (content : ℕ → ℕ) (s : ℕ) → size % 65536 ≡ 0 → size / 4096 ≤ s
    → (i : ℕ) → i < 4096 → wanted_at request image size content (4096 * s + i) ≡ content (4096 * s + i)
past_kept request image size content s blocks past i below =
    let beyond = le-ltb (4096 * s + i) size (omega arith) in
    wanted-kept request image size content (4096 * s + i) (rw beyond (and-false (is_data request.what)))

pub only_inside : (marks : ℕ → Bool) (n s : ℕ) → (n ≤ s → marks s ≡ false) → (nat_lt s n && marks s) ≡ marks s
only_inside marks n s past = elim (cases_lt s n) [
  | inl below ↦ rw (lt-ltb s n below) refl
  | inr beyond ↦ rw (past beyond) (and-false (nat_lt s n))
]

pub inside_from : (marks : ℕ → Bool) (n s : ℕ) → (n ≤ s → marks s ≡ false) → marks s ≡ true → s < n
inside_from marks n s past hit = elim (cases_lt s n) [
  | inl below ↦ below
  | inr beyond ↦ absurd (both_ways (marks s) (past beyond) hit)
]

module _ (request : Request) (image : List ℕ) (size : ℕ) (content : ℕ → ℕ) (s : ℕ) (blocks : size % 65536 ≡ 0) where
  pub touched_past : size / 4096 ≤ s → is_touched content (wanted_at request image size content) s ≡ false
  touched_past past = untouched _ _ s (past_kept request image size content s blocks past)

  pub raised_past : size / 4096 ≤ s → is_raised content (wanted_at request image size content) s ≡ false
  raised_past past = unraised _ _ s (past_kept request image size content s blocks past)

  pub touched_inside : is_touched content (wanted_at request image size content) s ≡ true → s < size / 4096
  touched_inside = inside_from (is_touched content (wanted_at request image size content)) (size / 4096) s touched_past

  pub raised_inside : is_raised content (wanted_at request image size content) s ≡ true → s < size / 4096
  raised_inside = inside_from (is_raised content (wanted_at request image size content)) (size / 4096) s raised_past

pub target-write : (what : What) (image : List ℕ) (a : ℕ) → is_data what ≡ true → (what ≡ Erase → ⊥) → slice_index image a ≡ target what image a
target-write Write image a about_bytes other = refl
target-write Erase image a about_bytes other = absurd (other refl)
target-write (WpRange start len) image a about_bytes other = absurd (let d = about_bytes in cc)

pub scans_sector : (request : Request) (size sector : ℕ) (included : Option (List Span)) (part filled part' bytes : List ℕ) (old new : BusState) (plan : SectorPlan)
    → is_data request.what ≡ true → 4096 * sector + 4096 ≤ size → included ≡ request.included → length bytes ≡ 4096 → length part' ≡ 4096
    → ((image : List ℕ) (a i : ℕ) → i < 4096 → slice_index part i ≡ slice_index image a → slice_index filled i ≡ target request.what image a)
    → ((i : ℕ) → i < 4096 → slice_index part' i ≡ (if includes included (4096 * sector + i) then slice_index filled i else slice_index bytes i))
    → ReadsSector sector old new bytes → HasOnlyRead 1 old new → (plan.raised ≡ true → plan.touched ≡ true)
    → ((content target_bytes : ℕ → ℕ) → AreBytesOf content bytes → AreBytesOf target_bytes part' → IsPlan content target_bytes (length bytes) plan)
    → ScansSector request size sector part part' bytes old new plan
scans_sector request size sector included part filled part' bytes old new plan about_bytes fits is_included long long' targets fills reads honest_reads needed plans =
    let shown = λ (is_open : IsOpen size old). reads.replied is_open.honest is_open.idle (let s = is_open.same in omega arith) in
    let merged : (content : ℕ → ℕ) → IsSectorOf content sector bytes → (image : List ℕ)
    → ((i : ℕ) → i < 4096 → slice_index part i ≡ slice_index image (4096 * sector + i))
    → (i : ℕ) → i < 4096 → slice_index part' i ≡ wanted_at request image size content (4096 * sector + i) =
    λ content read image same i below.
    let may = may_change-included request size (4096 * sector + i) about_bytes (omega arith) in
    let target_bytes = targets image (4096 * sector + i) i below (same i below) in
    fills i below ∙ rw (is_included, target_bytes, read.byte i below, may) refl in
    record {
      needed = needed;
      answered = reads.answered;
      honest_reads = honest_reads;
      shown = shown;
      merged = merged;
      planned = λ content read image same.
          planned content (wanted_at request image size content) sector plan (rw long at (plans
          (λ i. content (4096 * sector + i)) (λ i. wanted_at request image size content (4096 * sector + i))
          (λ i below. read.byte i (omega arith)) (λ i below. merged content read image same i (omega arith))));
    }
