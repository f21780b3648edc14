use Rattle.std.proofs.Common.{◌≡◌, ◌≢◌, ◌<◌, ◌≤◌, ◌+◌, ◌-◌, ◌*◌, ◌/◌, ◌%◌, ◌&&◌, ◌||◌, ◌∙◌, ℕ, Bool, true, false, List}
use Rattle.std.proofs.Common.{Option, take, drop, length, slice_index, refl, ap, sym, subst, arith, inl, inr}
use Rattle.std.specs.Prelude.{if◌then◌else◌, ◌==◌, nat_lt}
use Rattle.std.proofs.lemmas.Bool.{cases_eq, eq-eqb, ne_eqb, or_left, and_left, both_ways, false_from_ne_true}
use Rattle.std.proofs.lemmas.Bool.Decides.{nat_tests}
use Rattle.std.proofs.Math.Bool.{and-false}
use Rattle.nor_model.specs.Bus.{BusState}
use Rattle.nor_driver.specs.OnlyReads.{IsOpen}
use Rattle.nor_driver.specs.ReadBack.{bytes_read, HaveBeenRead}
use Rattle.nor_driver.proofs.ReadBack.{none_read, fewer_read, more_read}
use Rattle.nor_driver.specs.Reads.{IsSectorOf}
use Rattle.nor_scan.proofs.Replied.{read_others, read_whole}
use Rattle.nor_geometry.specs.Below.{count_below}
use Rattle.nor_layout.specs.Sectors.{includes, has_in_sector, NoneInSector}
use Rattle.nor_journal.specs.Saved.{IsWholeSector, HasOneMore}
use Rattle.nor_plan.specs.SectorSet.{has}
use Rattle.nor_plan.specs.declared.plan.SectorPlan.{SectorPlan}
use Rattle.nor_plan.specs.Content.{is_touched, is_raised}
use Rattle.nor_geometry.specs.Counts.{sector_count}
use Rattle.nor_request.specs.declared.request.Request.{Request}
use Rattle.nor_scan.specs.declared.scanning.Scanned.{Scanned}
use Rattle.nor_request.specs.Request.{is_data, scanned_sectors}
use Rattle.nor_scan.specs.Scanning.{wanted_at, AreMarks, AreRight, sectors_below, IsBlank, HasMarked, ScansSector, IsScanned, Scans}
use Rattle.nor_geometry.proofs.Counting.{count_below-zero, count_below-with, count_below-without, count_below-add}
use Rattle.nor_geometry.proofs.Counting.{count_below-none, count_below-same}
use Rattle.nor_geometry.proofs.Verdicts.{count_below-insert}
use Rattle.nor_scan.proofs.Planned.{may_change-included, wanted-kept, untouched, unraised}
use Rattle.nor_driver.proofs.RestsInTurn.{HasOnlyRead, has_only_read-none, has_only_read-then, open_later, same_bytes}
use Rattle.nor_plan.proofs.Parts.{cut_out, put_back}
use Rattle.nor_model.specs.Size.{is_chip_size}
use Rattle.nor_model.proofs.Sizes.{is_chip_size-in_blocks}
use Rattle.nor_layout.specs.declared.ranges.Span.{Span}
use borrow.Rule.Slice.PartMut.{put_mid}

abbrev pub AgreeBelow : (n : ℕ) → (one two : ℕ → ℕ) → Type 0
AgreeBelow n one two = (s i : ℕ) → s < n → i < 4096 → one (4096 * s + i) ≡ two (4096 * s + i)

abbrev pub IsIncludedBelow : Request → (n a : ℕ) → Type 0
IsIncludedBelow request n a = (a / 4096 < n) × (has_in_sector (includes request.included) (a / 4096) ≡ true)

-- Holds if the sectors below `n` with an included address were scanned, and the image from sector `n` on is unchanged.
pub record HasScanned (request : Request) (size n : ℕ) (image image' : List ℕ) (old new : BusState)
    (scanned : Scanned) : Type 0 where
  pub marks : AreMarks n scanned
  pub reads : scanned.reads ≡ count_below n (has_in_sector (includes request.included))
  pub honest_reads : HasOnlyRead scanned.reads old new
  pub read : HaveBeenRead (IsIncludedBelow request n) old.history new.history
  pub replied : (content : ℕ → ℕ) → AgreeBelow n content (bytes_read new.history)
      → AreRight (wanted_at request image size content) content (sectors_below n) scanned
  pub filled : (content : ℕ → ℕ) → AgreeBelow n content (bytes_read new.history) → (a : ℕ)
      → has scanned.touched (a / 4096) ≡ true → slice_index image' a ≡ wanted_at request image size content a
  pub right : IsOpen size old → AreRight (wanted_at request image size old.chip.bytes) old.chip.bytes (sectors_below n) scanned
  pub merged : IsOpen size old → (a : ℕ) → has scanned.touched (a / 4096) ≡ true
      → slice_index image' a ≡ wanted_at request image size old.chip.bytes a
  pub rest : (a : ℕ) → 4096 * n ≤ a → slice_index image' a ≡ slice_index image a

tested : (n s : ℕ) (test : ℕ → Bool) (seen more : Bool) {verdict old new : Bool} → verdict ≡ test n → more ≡ ((s == n) || seen)
    → old ≡ (seen && test s) → new ≡ ((verdict && (s == n)) || old) → new ≡ (more && test s)
tested n s test seen more is one was inserted = grind (arith, nat_tests)

below_more : (n s : ℕ) → sectors_below (n + 1) s ≡ ((s == n) || sectors_below n s)
below_more n s = grind (arith, nat_tests)

pub right_more : {wanted content : ℕ → ℕ} {seen more : ℕ → Bool} {n : ℕ} {plan : SectorPlan} {old new : Scanned}
    → (plan.touched ≡ is_touched content wanted n) × (plan.raised ≡ is_raised content wanted n)
    → ((s : ℕ) → more s ≡ ((s == n) || seen s)) → HasMarked n plan old new → AreRight wanted content seen old
    → AreRight wanted content more new
right_more {wanted = wanted} {content = content} {n = n} is one marked was = record {
  touched = λ s. tested n s (is_touched content wanted) _ _ is.0 (one s) (was.touched s) (marked.touched s);
  raised = λ s. tested n s (is_raised content wanted) _ _ is.1 (one s) (was.raised s) (marked.raised s);
}

absent : (n : ℕ) (scanned : Scanned) → AreMarks n scanned → (s : ℕ) → n ≤ s → has scanned.touched s ≡ false
absent n scanned are s above = false_from_ne_true _ (λ marked. let below = are.below s marked in absurd (omega arith))

counted : (n : ℕ) (plan : SectorPlan) (old new : Scanned) (verdict : Bool) → plan.touched ≡ verdict → n < 4096
    → AreMarks n old → HasMarked n plan old new
    → old.count + (if verdict then 1 else 0) ≡ sector_count (has new.touched)
counted n plan old new true is below are marked =
    let one = count_below-insert 4096 n (has old.touched) (has new.touched) below (absent n old are n (omega arith))
    (λ s. rw is at (marked.touched s)) in
    omega (arith, are.count)
counted n plan old new false is below are marked =
    let same : (s : ℕ) → s < 4096 → has old.touched s ≡ has new.touched s =
    λ s low. sym (rw is at (marked.touched s)) in
    omega (arith, are.count, count_below-same 4096 (has old.touched) (has new.touched) same)

pub marks_more : (n : ℕ) (plan : SectorPlan) (old new : Scanned) → n < 4096
    → (plan.raised ≡ true → plan.touched ≡ true) → AreMarks n old → HasMarked n plan old new → AreMarks (n + 1) new
marks_more n plan old new below needed are marked = record {
  below = λ s is. grind (arith, nat_tests, sym (marked.touched s) ∙ is, are.below s);
  inside = λ s is. grind (arith, nat_tests, sym (marked.raised s) ∙ is, marked.touched s, are.inside s);
  count = marked.count ∙ counted n plan old new plan.touched refl below are marked;
}

pub marked_more : (n : ℕ) (plan : SectorPlan) (old new : Scanned) → plan.touched ≡ true → HasMarked n plan old new
    → HasOneMore (has old.touched) n (has new.touched)
marked_more n plan old new touched marked = record {
  here = rw (marked.touched n, touched) (or_left (n == n) (has old.touched n) (eq-eqb n n refl));
  others = λ s other. rw (marked.touched s, touched, ne_eqb s n other);
}

pub marked_none : (n : ℕ) (plan : SectorPlan) (old new : Scanned) → plan.touched ≡ false → HasMarked n plan old new
    → (s : ℕ) → has new.touched s ≡ has old.touched s
marked_none n plan old new untouched marked s = rw untouched at (marked.touched s)

pub record IsAt (request : Request) (size n : ℕ) (verdict : Bool) : Type 0 where
  pub about_bytes : is_data request.what ≡ true
  pub below : n < size / 4096
  pub small : size ≤ 16777216
  pub included : has_in_sector (includes request.included) n ≡ verdict

pub is_at : {request : Request} {size n sectors : ℕ} {included : Option (List Span)} {test verdict : Bool}
    → is_chip_size size ≡ true → (0 < sectors → (is_data request.what ≡ true) × (sectors ≡ size / 4096))
    → n < sectors → included ≡ request.included → test ≡ has_in_sector (includes included) n → test ≡ verdict
    → IsAt request size n verdict
is_at {size = size} sized targets within same is so =
    let target_bytes = targets (omega arith) in
    record {
      about_bytes = target_bytes.0;
      below = omega (arith, target_bytes.1);
      small = (is_chip_size-in_blocks size sized).small;
      included = rw (← same) (sym is ∙ so);
    }

pub nothing_scanned : (request : Request) (size : ℕ) (image : List ℕ) (state : BusState) (scanned : Scanned)
    → IsBlank scanned → HasScanned request size 0 image image state state scanned
nothing_scanned request size image state scanned blank = record {
  marks = record {
    below = λ s is. absurd (both_ways _ (blank.touched s) is);
    inside = λ s is. absurd (both_ways _ (blank.raised s) is);
    count = blank.count ∙ sym (count_below-none 4096 (has scanned.touched) (λ s below. blank.touched s));
  };
  reads = blank.reads ∙ sym (count_below-zero (has_in_sector (includes request.included)));
  honest_reads = rw blank.reads (has_only_read-none state);
  read = none_read (IsIncludedBelow request 0) state.history (λ a is. let below = is.0 in omega arith);
  replied = λ content same. record {
    touched = λ s. rw (blank.touched s) (grind (arith, nat_tests));
    raised = λ s. rw (blank.raised s) (grind (arith, nat_tests));
  };
  filled = λ content same a is. absurd (both_ways _ (blank.touched (a / 4096)) is);
  right = λ is_open. record {
    touched = λ s. rw (blank.touched s) (grind (arith, nat_tests));
    raised = λ s. rw (blank.raised s) (grind (arith, nat_tests));
  };
  merged = λ is_open a is. absurd (both_ways _ (blank.touched (a / 4096)) is);
  rest = λ a above. refl;
}

module _ {request : Request} {size n : ℕ} {image image' : List ℕ} {old mid : BusState} {scanned : Scanned}
    (was : HasScanned request size n image image' old mid scanned) where
  pub skipped : IsAt request size n false → NoneInSector (includes request.included) n
      → HasScanned request size (n + 1) image image' old mid scanned
  skipped at excluded =
      let kept : (content : ℕ → ℕ) (i : ℕ) → i < 4096
      → wanted_at request image size content (4096 * n + i) ≡ content (4096 * n + i) = λ content i below.
      let within = at.below in
      wanted-kept request image size content (4096 * n + i)
      (may_change-included request size (4096 * n + i) at.about_bytes (omega arith) ∙ excluded i below) in
      let right_on : (content : ℕ → ℕ) → AreRight (wanted_at request image size content) content (sectors_below n) scanned
      → AreRight (wanted_at request image size content) content (sectors_below (n + 1)) scanned = λ content right.
      let target_bytes = wanted_at request image size content in
      record {
        touched = λ s. tested n s (is_touched content target_bytes) _ _
            (sym (untouched content target_bytes n (kept content))) (below_more n s) (right.touched s) refl;
        raised = λ s. tested n s (is_raised content target_bytes) _ _
            (sym (unraised content target_bytes n (kept content))) (below_more n s) (right.raised s) refl;
      } in
      record {
        marks = record {
          below = λ s is. let below = was.marks.below s is in omega arith;
          inside = was.marks.inside;
          count = was.marks.count;
        };
        reads = was.reads ∙ sym (count_below-without n (has_in_sector (includes request.included)) at.included);
        honest_reads = was.honest_reads;
        read = fewer_read (λ a is.
            let other : a / 4096 ≢ n = λ here. both_ways _ at.included (rw here at is.1) in
            let below = is.0 in (omega arith, is.1)) was.read;
        replied = λ content same. right_on content (was.replied content (λ s i below. same s i (omega arith)));
        filled = λ content same. was.filled content (λ s i below. same s i (omega arith));
        right = λ is_open. right_on old.chip.bytes (was.right is_open);
        merged = was.merged;
        rest = λ a above. was.rest a (omega arith);
      }

  later : IsOpen size old → IsOpen size mid
  later = open_later was.honest_reads

  same_before : IsOpen size old → mid.chip.bytes ≡ old.chip.bytes
  same_before is_open = same_bytes (was.honest_reads.rested is_open.honest)

  module _ {width : ℕ} {part' bytes : List ℕ} {plan : SectorPlan} {new : BusState} (at : IsAt request size n true)
      (scans : ScansSector request size n (take width (drop (4096 * n) image')) part' bytes mid new plan)
      (exact : width ≡ 4096) where
    of_image : (i : ℕ) → i < 4096
        → slice_index (take width (drop (4096 * n) image')) i ≡ slice_index image (4096 * n + i)
    of_image i below = cut_out image' (4096 * n) width i exact below ∙ was.rest (4096 * n + i) (omega arith)

    pub planned_before : IsOpen size old
        → (plan.touched ≡ is_touched old.chip.bytes (wanted_at request image size old.chip.bytes) n)
        × (plan.raised ≡ is_raised old.chip.bytes (wanted_at request image size old.chip.bytes) n)
    planned_before is_open = rw (same_before is_open)
        at (scans.planned mid.chip.bytes (scans.shown (later is_open)) image of_image)

    pub read_before : length bytes ≡ 4096 → IsOpen size old → IsWholeSector old.chip.bytes n bytes
    read_before long is_open = record {
      whole = long;
      same = rw (same_before is_open) at (scans.shown (later is_open)).byte;
    }

    agree_before : (content : ℕ → ℕ) → AgreeBelow (n + 1) content (bytes_read new.history)
        → AgreeBelow n content (bytes_read mid.history)
    agree_before content same s i below small = same s i (omega arith) small
        ∙ read_others n scans.answered s i (λ is. absurd (omega (arith, is, below))) small

    agree_here : (content : ℕ → ℕ) → length bytes ≡ 4096 → AgreeBelow (n + 1) content (bytes_read new.history)
        → IsSectorOf content n bytes
    agree_here content long same = record {
      byte = λ i small. (read_whole n scans.answered long).same i small ∙ sym (same n i (omega arith) small);
    }

    pub scanned_more : {next : Scanned} → HasMarked n plan scanned next → length part' ≡ 4096
        → length bytes ≡ 4096 → length image' ≡ size
        → HasScanned request size (n + 1) image (put_mid (4096 * n) width image' part') old new next
    scanned_more {next = next} marked whole read long =
        let within = at.below in let small = at.small in
        let put = put_back n width image' part' exact whole (omega arith) in
        let filled_on : (content : ℕ → ℕ) → ((i : ℕ) → i < 4096
        → slice_index part' i ≡ wanted_at request image size content (4096 * n + i)) → ((a : ℕ)
        → has scanned.touched (a / 4096) ≡ true → slice_index image' a ≡ wanted_at request image size content a)
        → (a : ℕ) → has next.touched (a / 4096) ≡ true
        → slice_index (put_mid (4096 * n) width image' part') a ≡ wanted_at request image size content a =
        λ content here before a is. elim (cases_eq (a / 4096) n) [
          | inl in_sector ↦
              let place : 4096 * n + a % 4096 ≡ a = omega arith in
              let below : a % 4096 < 4096 = omega arith in
              subst (λ (k : ℕ). slice_index (put_mid (4096 * n) width image' part') k
              ≡ wanted_at request image size content k) place
              (put.inside (a % 4096) below ∙ here (a % 4096) below)
          | inr other ↦
              put.outside a other
              ∙ before a (sym (rw (ne_eqb (a / 4096) n other, and-false) at (marked.touched (a / 4096))) ∙ is)
        ] in
        record {
          marks = marks_more n plan scanned next (omega arith) scans.needed was.marks marked;
          reads =
              let next = count_below-with n (has_in_sector (includes request.included)) at.included in
              omega (arith, was.reads, marked.reads);
          honest_reads = rw marked.reads (has_only_read-then was.honest_reads scans.honest_reads);
          read = more_read was.read scans.answered read
              (λ a is other. let below = is.0 in (omega arith, is.1));
          replied = λ content same. right_more (scans.planned content (agree_here content read same) image of_image)
              (below_more n) marked (was.replied content (agree_before content same));
          filled = λ content same. filled_on content (scans.merged content (agree_here content read same) image of_image)
              (was.filled content (agree_before content same));
          right = λ is_open. right_more (planned_before is_open) (below_more n) marked (was.right is_open);
          merged = λ is_open. filled_on old.chip.bytes (rw (same_before is_open)
              at (scans.merged mid.chip.bytes (scans.shown (later is_open)) image of_image)) (was.merged is_open);
          rest = λ a above. put.outside a (λ same. absurd (omega arith)) ∙ was.rest a (omega arith);
        }

  pub room : IsAt request size n true → scanned.reads < scanned_sectors request size
  room at =
      let test = has_in_sector (includes request.included) in
      let below = at.below in
      let e : n + 1 + (size / 4096 - (n + 1)) ≡ size / 4096 = omega arith in
      rw at.about_bytes (omega (
        arith,
        was.reads,
        count_below-with n test at.included,
        ap (λ (k : ℕ). count_below k test) e,
        count_below-add (n + 1) (size / 4096 - (n + 1)) test,
      ))

  scans_of : HaveBeenRead (IsScanned request size) old.history mid.history → scanned.count ≤ scanned.reads → AreMarks (size / 4096) scanned
      → scanned.reads ≡ scanned_sectors request size
      → AreRight (wanted_at request image size (bytes_read mid.history)) (bytes_read mid.history)
      (sectors_below (size / 4096)) scanned → (IsOpen size old
      → AreRight (wanted_at request image size old.chip.bytes) old.chip.bytes (sectors_below (size / 4096)) scanned)
      → Scans request size image image' old mid scanned
  scans_of read few marks reads replied right =
      let filled = was.filled (bytes_read mid.history) (λ s i below small. refl) in
      search (was.honest_reads.rested, was.honest_reads.sent, was.merged)

  pub all_scanned : is_data request.what ≡ true → n ≡ size / 4096 → scanned.count ≤ scanned.reads
      → Scans request size image image' old mid scanned
  all_scanned about_bytes end few =
      scans_of (fewer_read (λ a is. (rw end is.1, is.2)) was.read) few (rw (← end) was.marks) (rw (about_bytes, ← end) was.reads)
      (rw (← end) (was.replied (bytes_read mid.history) (λ s i below small. refl)))
      (λ is_open. rw (← end) (was.right is_open))

  pub none_to_scan : is_data request.what ≡ false → n ≡ 0 → scanned.count ≤ scanned.reads
      → Scans request size image image' old mid scanned
  none_to_scan other at_first few =
      let kept : (content : ℕ → ℕ) (a : ℕ) → wanted_at request image size content a ≡ content a = λ content a.
      wanted-kept request image size content a
      (and_left (is_data request.what) (nat_lt a size && includes request.included a) other) in
      let free : (s : ℕ) → has scanned.touched s ≡ false = λ s. absent n scanned was.marks s (omega arith) in
      let flat : (s : ℕ) → has scanned.raised s ≡ false =
      λ s. false_from_ne_true _ (λ is. absurd (both_ways _ (free s) (was.marks.inside s is))) in
      let right : (content : ℕ → ℕ)
      → AreRight (wanted_at request image size content) content (sectors_below (size / 4096)) scanned = λ content.
      let target_bytes = wanted_at request image size content in record {
        touched = λ s. rw (free s, untouched content target_bytes s (λ i below. kept content (4096 * s + i)), and-false)
            refl;
        raised = λ s. rw (flat s, unraised content target_bytes s (λ i below. kept content (4096 * s + i)), and-false)
            refl;
      } in
      scans_of (fewer_read (λ a is. absurd (both_ways (is_data request.what) other is.0)) was.read) few (record {
        below = λ s is. absurd (both_ways _ (free s) is);
        inside = was.marks.inside;
        count = was.marks.count;
      }) (rw other (rw at_first at was.reads ∙ count_below-zero _)) (right (bytes_read mid.history))
      (λ is_open. right old.chip.bytes)
