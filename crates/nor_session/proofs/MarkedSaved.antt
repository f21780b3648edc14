use Rattle.std.proofs.Common.{◌≡◌, ◌<◌, ◌≤◌, ◌+◌, ◌/◌, ◌∙◌, ◌||◌, ℕ, Bool, List, length, take, slice_index, ap, sym, subst, arith}
use Rattle.std.specs.Prelude.{◌==◌, Some, slice_get}
use Rattle.std.proofs.lemmas.Bool.{and_left, both_ways}
use Rattle.std.proofs.lemmas.Bool.Decides.{nat_tests}
use Rattle.nor_model.proofs.Sizes.{is_chip_size-in_blocks}
use Rattle.nor_geometry.proofs.Counting.{count_below-none}
use Rattle.nor_journal.specs.Text.{SavedSector, Content, IsContent, least_after}
use Rattle.nor_journal.specs.Saved.{saved_in, is_saved}
use Rattle.nor_journal.proofs.Saved.{saved_in-nil, saved_in-take_more, saved_few, rising_at, take-next, take-all_sectors, least_within}
use Rattle.nor_plan.specs.SectorSet.{has}
use Rattle.nor_driver.proofs.RestsInTurn.{has_only_read-none}
use Rattle.nor_driver.proofs.ReadBack.{none_read}
use Rattle.nor_scan.specs.declared.scanning.Scanned.{Scanned}
use Rattle.nor_scan.specs.Scanning.{AreMarks, IsBlank, HasMarked}
use Rattle.nor_scan.proofs.Scans.{marks_more}
use Rattle.nor_session.specs.PrepareRestore.{MarksSaved, plan_of_rewritten}
use Rattle.nor_session.proofs.Rescanned.{saved_before, later_marks, more_before, small_byte}

pub record HasMarkedFirst (journal : Content) (i : ℕ) (scanned : Scanned) : Type 0 where
  pub marks : AreMarks (least_after 0 (take i journal.saved)) scanned
  pub reads : scanned.reads ≡ i
  pub few : scanned.count ≤ i
  pub touched : (s : ℕ) → has scanned.touched s ≡ saved_before journal i s
  pub raised : (s : ℕ) → has scanned.raised s ≡ saved_before journal i s
  pub bytes : (s : ℕ) (bytes : List ℕ) → saved_in (take i journal.saved) s ≡ Some bytes → (k : ℕ)
      → slice_index bytes k < 256

pub nothing_marked : {journal : Content} {scanned : Scanned} → IsBlank scanned → HasMarkedFirst journal 0 scanned
nothing_marked {journal = journal} {scanned = scanned} blank =
    search (arith, and_left, both_ways, count_below-none, saved_in-nil)

pub marked_next : {journal : Content} {i s : ℕ} {saved : List ℕ} {scanned next : Scanned} → IsContent journal
    → slice_get journal.saved i ≡ Some (record { number = s; bytes = saved })
    → ((k : ℕ) → slice_index saved k < 256) → HasMarkedFirst journal i scanned
    → HasMarked s plan_of_rewritten scanned next → HasMarkedFirst journal (i + 1) next
marked_next {journal = journal} {i = i} {s = s} {saved = saved} {scanned = scanned} {next = next} is at small was marked =
    let one : SavedSector = record { number = s; bytes = saved } in
    let place = (rising_at (journal.size / 4096) 0 journal.saved i one is.saved at).0.place in
    let next_least = take-next journal i one is at in
    let most = (is_chip_size-in_blocks journal.size is.size).small in
    let more = λ (t : ℕ). more_before journal i s saved t is at in
    record {
      marks = subst (λ (n : ℕ). AreMarks n next) (sym next_least.1)
          (marks_more s plan_of_rewritten scanned next (omega arith) (λ raised. raised) (later_marks next_least.0 was.marks) marked);
      reads = marked.reads ∙ ap (λ (n : ℕ). n + 1) was.reads;
      few = let count = marked.count in let few = was.few in omega arith;
      touched = λ t. marked.touched t ∙ ap (λ (b : Bool). (t == s) || b) (was.touched t) ∙ sym (more t);
      raised = λ t. marked.raised t ∙ ap (λ (b : Bool). (t == s) || b) (was.raised t) ∙ sym (more t);
      bytes = λ t these returned k.
          let now = saved_in-take_more journal i one t is at in
          let before = λ (had : saved_in (take i journal.saved) t ≡ Some these). was.bytes t these had k in
          let small = small k in
          grind (arith, nat_tests);
    }

pub all_marked : {journal : Content} {n : ℕ} {scanned : Scanned} → IsContent journal → n ≡ length journal.saved
    → HasMarkedFirst journal n scanned → MarksSaved journal scanned
all_marked {journal = journal} {n = n} {scanned = scanned} is end was =
    let few = saved_few journal is in let most = (is_chip_size-in_blocks journal.size is.size).small in
    let whole : take n journal.saved ≡ journal.saved = rw end (take-all_sectors journal.saved) in
    let touched : (s : ℕ) → has scanned.touched s ≡ is_saved journal s = rw whole at was.touched in
    let raised : (s : ℕ) → has scanned.raised s ≡ is_saved journal s = rw whole at was.raised in
    let marks = rw whole at was.marks in let bytes = rw whole at was.bytes in
    record {
      touched = touched;
      raised = raised;
      chosen = λ state. record {
        marks = later_marks (least_within journal is) marks;
        saved = λ s hit. sym (touched s) ∙ hit;
        bytes = λ a saved. small_byte _ _ (bytes (a / 4096)) saved;
        few = omega (arith, was.few);
        room = omega (arith, few, most);
        honest_reads = has_only_read-none state;
        replied = touched;
        read = none_read _ _ (λ a left. both_ways (is_saved journal (a / 4096)) left.1 left.0);
        touched = λ is_open s. touched s;
        raised = λ is_open s. raised s;
      };
    }
