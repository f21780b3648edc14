-- The loop of a restore that reads the saved sectors, and marks those that differ from the journal.
use Rattle.std.proofs.Common.{◌≡◌, ◌<◌, ◌≤◌, ◌+◌, ◌*◌, ◌/◌, ◌||◌, ◌∙◌, ℕ, Bool, true, false, List, [], length, take, slice_index, refl, ap, sym, subst, arith}
use Rattle.std.specs.Prelude.{◌==◌, Option, Some, slice_get}
use Rattle.std.specs.Option.{is_some, unwrap_or}
use Rattle.std.proofs.lemmas.Bool.{and_left, both_ways}
use Rattle.std.proofs.lemmas.Bool.Decides.{nat_tests}
use Rattle.nor_model.proofs.Sizes.{is_chip_size-in_blocks}
use Rattle.nor_model.specs.Bus.{BusState}
use Rattle.nor_driver.specs.OnlyReads.{IsOpen}
use Rattle.nor_driver.specs.ReadBack.{bytes_read, HaveBeenRead}
use Rattle.nor_driver.proofs.ReadBack.{fewer_read, more_read}
use Rattle.nor_scan.proofs.Replied.{read_others, read_whole}
use Rattle.nor_journal.specs.Text.{SavedSector, Content, IsContent, least_after}
use Rattle.nor_journal.specs.Saved.{saved_in, is_saved, saved_byte}
use Rattle.nor_journal.proofs.Saved.{saved_in-nil, saved_in-take_more, saved_in-at, rising_at, take-next, take-all_sectors, least_within, saved_few}
use Rattle.nor_plan.specs.SectorSet.{has}
use Rattle.nor_plan.specs.declared.plan.SectorPlan.{SectorPlan}
use Rattle.nor_plan.specs.Content.{is_touched, is_raised}
use Rattle.nor_geometry.proofs.Counting.{at_most_one, count_below-none}
use Rattle.nor_scan.specs.declared.scanning.Scanned.{Scanned}
use Rattle.nor_scan.specs.Scanning.{AreMarks, AreRight, IsBlank, HasMarked}
use Rattle.nor_scan.proofs.Planned.{planned, untouched, unraised}
use Rattle.nor_driver.proofs.RestsInTurn.{HasOnlyRead, has_only_read-none, has_only_read-then, open_later}
use Rattle.nor_scan.proofs.Scans.{marks_more, right_more}
use Rattle.nor_session.specs.Restore.{differing, restored, IsLeft}
use Rattle.nor_session.specs.PrepareRestore.{PlansSaved, MarksChosen}
use Rattle.nor_session.proofs.SavedBytes.{sector_at, byte_at, is_saved-some}

abbrev pub saved_before : Content → ℕ → ℕ → Bool
saved_before journal i s = is_some (saved_in (take i journal.saved) s)

abbrev pub AgreeBefore : Content → (i : ℕ) → (one two : ℕ → ℕ) → Type 0
AgreeBefore journal i one two = (s k : ℕ) → s < least_after 0 (take i journal.saved) → k < 4096
    → one (4096 * s + k) ≡ two (4096 * s + k)

-- Holds after the first `i` saved sectors were read once each, and marked by what was read.
pub record HasRescanned (journal : Content) (i : ℕ) (old new : BusState) (scanned : Scanned) : Type 0 where
  pub marks : AreMarks (least_after 0 (take i journal.saved)) scanned
  pub reads : scanned.reads ≡ i
  pub few : scanned.count ≤ i
  pub honest_reads : HasOnlyRead i old new
  pub saved : (s : ℕ) → has scanned.touched s ≡ true → saved_before journal i s ≡ true
  pub bytes : (s : ℕ) (bytes : List ℕ) → saved_in (take i journal.saved) s ≡ Some bytes → (k : ℕ) → slice_index bytes k < 256
  pub read : HaveBeenRead (λ a. saved_before journal i (a / 4096) ≡ true) old.history new.history
  pub replied : (content : ℕ → ℕ) → AgreeBefore journal i content (bytes_read new.history)
      → AreRight (restored journal content) content (saved_before journal i) scanned
  pub right : IsOpen journal.size old
      → AreRight (restored journal old.chip.bytes) old.chip.bytes (saved_before journal i) scanned

pub nothing_rescanned : {journal : Content} {state : BusState} {scanned : Scanned} → IsBlank scanned
    → HasRescanned journal 0 state state scanned
nothing_rescanned {journal = journal} {state = state} {scanned = scanned} blank =
    search (arith, and_left, both_ways, count_below-none, has_only_read-none, saved_in-nil)

pub later_marks : {m n : ℕ} {scanned : Scanned} → m ≤ n → AreMarks m scanned → AreMarks n scanned
later_marks later are = search (are.below, arith)

pub more_before : (journal : Content) (i number : ℕ) (saved : List ℕ) (s : ℕ) → IsContent journal → slice_get journal.saved i ≡ Some (record { number = number; bytes = saved })
    → saved_before journal (i + 1) s ≡ ((s == number) || saved_before journal i s)
more_before journal i number saved s is at =
    let more = saved_in-take_more journal i (record { number = number; bytes = saved }) s is at in
    grind (arith, nat_tests)

pub restored_saved : (journal : Content) (content : ℕ → ℕ) (a : ℕ) → is_saved journal (a / 4096) ≡ true → restored journal content a ≡ saved_byte journal a
restored_saved journal content a is = rw is refl

pub restored_other : (journal : Content) (content : ℕ → ℕ) (a : ℕ) → is_saved journal (a / 4096) ≡ false → restored journal content a ≡ content a
restored_other journal content a is = rw is refl

restored_at : (journal : Content) (content : ℕ → ℕ) (s : ℕ) (saved : List ℕ) (i : ℕ) → saved_in journal.saved s ≡ Some saved → i < 4096 → slice_index saved i ≡ restored journal content (4096 * s + i)
restored_at journal content s saved i is below = search (arith, byte_at, is_saved-some, restored_saved, sector_at)

planned_for : (journal : Content) (s : ℕ) (saved bytes : List ℕ) (mid new : BusState) (plan : SectorPlan) → saved_in journal.saved s ≡ Some saved
    → length saved ≡ 4096 → PlansSaved s saved bytes mid new plan → (content : ℕ → ℕ)
    → ((k : ℕ) → k < 4096 → slice_index bytes k ≡ content (4096 * s + k))
    → (plan.touched ≡ is_touched content (restored journal content) s) × (plan.raised ≡ is_raised content (restored journal content) s)
planned_for journal s saved bytes mid new plan is whole plans content shown =
    let long = plans.whole in
    let target_bytes = restored journal content in
    planned content target_bytes s plan
    (plans.planned (λ k. content (4096 * s + k)) (λ k. target_bytes (4096 * s + k))
    (λ k below. shown k (omega arith))
    (λ k below. restored_at journal content s saved k is (omega arith)))

planned_from : (journal : Content) (s : ℕ) (saved bytes : List ℕ) (old mid new : BusState) (plan : SectorPlan) (i : ℕ) → saved_in journal.saved s ≡ Some saved → s < journal.size / 4096
    → length saved ≡ 4096 → IsOpen journal.size old → HasOnlyRead i old mid → PlansSaved s saved bytes mid new plan
    → (plan.touched ≡ is_touched old.chip.bytes (restored journal old.chip.bytes) s) × (plan.raised ≡ is_raised old.chip.bytes (restored journal old.chip.bytes) s)
planned_from journal s saved bytes old mid new plan i is place whole is_open honest_reads plans =
    let long = plans.whole in
    let later = open_later honest_reads is_open in
    let same = (honest_reads.rested is_open.honest).unchanged.same.bytes in
    let shown = plans.read.replied later.honest later.idle (let size = later.same in omega arith) in
    let content = old.chip.bytes in
    let target_bytes = restored journal content in
    planned content target_bytes s plan
    (plans.planned (λ k. content (4096 * s + k)) (λ k. target_bytes (4096 * s + k))
    (λ k below. shown.byte k (omega arith) ∙ same (4096 * s + k))
    (λ k below. restored_at journal content s saved k is (omega arith)))

pub rescanned_more : {journal : Content} {i s : ℕ} {saved bytes : List ℕ} {old mid new : BusState} {plan : SectorPlan}
    {scanned next : Scanned} → IsContent journal
    → slice_get journal.saved i ≡ Some (record { number = s; bytes = saved }) → length saved ≡ 4096
    → HasRescanned journal i old mid scanned → PlansSaved s saved bytes mid new plan
    → HasMarked s plan scanned next → HasRescanned journal (i + 1) old new next
rescanned_more {journal = journal} {i = i} {s = s} {saved = saved} {bytes = bytes} {old = old} {mid = mid} {new = new}
    {plan = plan} {scanned = scanned} {next = next} is at whole was plans marked =
    let one : SavedSector = record { number = s; bytes = saved } in
    let is_in = saved_in-at (journal.size / 4096) 0 journal.saved i one is.saved at in
    let place = (rising_at (journal.size / 4096) 0 journal.saved i one is.saved at).0.place in
    let next_least = take-next journal i one is at in
    let plans_are = λ (is_open : IsOpen journal.size old).
    planned_from journal s saved bytes old mid new plan i is_in place whole is_open was.honest_reads plans in
    let most = (is_chip_size-in_blocks journal.size is.size).small in
    let more = λ (t : ℕ). more_before journal i s saved t is at in
    record {
      marks = subst (λ (n : ℕ). AreMarks n next) (sym next_least.1)
          (marks_more s plan scanned next (omega arith) plans.needed (later_marks next_least.0 was.marks) marked);
      reads = marked.reads ∙ ap (λ (n : ℕ). n + 1) was.reads;
      few = let count = at_most_one plan.touched in omega arith;
      honest_reads = has_only_read-then was.honest_reads plans.honest_reads;
      saved = λ t hit.
          let now = more t in let mark = marked.touched t in let before = was.saved t in
          grind (arith, nat_tests);
      bytes = λ t these returned k.
          let now = saved_in-take_more journal i one t is at in
          let before = λ (had : saved_in (take i journal.saved) t ≡ Some these). was.bytes t these had k in
          let small = plans.small k in
          grind (arith, nat_tests);
      read = more_read was.read plans.read.answered plans.whole (λ a hit other.
          let now = more (a / 4096) in grind (arith, nat_tests));
      replied = λ content same.
          let here : (k : ℕ) → k < 4096 → slice_index bytes k ≡ content (4096 * s + k) = λ k small.
          (read_whole s plans.read.answered plans.whole).same k small
          ∙ sym (same s k (let next = next_least.1 in omega arith) small) in
          let before : AgreeBefore journal i content (bytes_read mid.history) = λ t k below small.
          let low = next_least.0 in let next = next_least.1 in
          same t k (omega (arith, below)) small
          ∙ read_others s plans.read.answered t k (λ is. omega (arith, is, below)) small in
          right_more (planned_for journal s saved bytes mid new plan is_in whole plans content here) more marked
          (was.replied content before);
      right = λ is_open. right_more (plans_are is_open) more marked (was.right is_open);
    }

pub untouched_other : (journal : Content) (content : ℕ → ℕ) (s : ℕ) → is_saved journal s ≡ false → is_touched content (restored journal content) s ≡ false
untouched_other journal content s none = search (arith, restored_other, sector_at, untouched)

pub unraised_other : (journal : Content) (content : ℕ → ℕ) (s : ℕ) → is_saved journal s ≡ false → is_raised content (restored journal content) s ≡ false
unraised_other journal content s none = search (arith, restored_other, sector_at, unraised)

pub small_byte : (o : Option (List ℕ)) (k : ℕ) → ((bytes : List ℕ) → o ≡ Some bytes → (k : ℕ) → slice_index bytes k < 256) → is_some o ≡ true → slice_index (unwrap_or o []) k < 256
small_byte o k small is = grind (arith, nat_tests)

pub all_rescanned : {journal : Content} {n : ℕ} {old new : BusState} {scanned : Scanned} → IsContent journal
    → n ≡ length journal.saved → HasRescanned journal n old new scanned → MarksChosen differing journal old new scanned
all_rescanned {journal = journal} {n = n} {old = old} {new = new} {scanned = scanned} is end was =
    let few = saved_few journal is in let most = (is_chip_size-in_blocks journal.size is.size).small in
    let shown = (was.replied (bytes_read new.history) (λ s k below small. refl)).touched in
    let read = fewer_read {Fewer = IsLeft differing journal (bytes_read new.history)}
    (λ a left. let all = take-all_sectors journal.saved in rw (end, all) (left.0)) was.read in
    search (arith, nat_tests, later_marks, least_within, small_byte, take-all_sectors, unraised_other, untouched_other)
