use Rattle.std.proofs.Common.{◌≡◌, ◌<◌, ◌≤◌, ◌^◌, ◌+◌, ◌/◌, ◌∙◌, ◌++◌, ℕ, Bool, true, inl, inr, length, ap, sym, refl, arith, true≢false}
use Rattle.std.specs.Prelude.{Result, OnOk}
use Rattle.std.proofs.lemmas.Result.{on_ok_weaker}
use mathlib.Core.Path.{fun_ext}
use Rattle.nor_model.specs.Sent.{Sent}
use Rattle.nor_model.specs.Chip.{Chip, IsSame, is_locked}
use Rattle.nor_model.specs.Bus.{BusState, KeepsNature}
use Rattle.nor_model.proofs.Nature.{nature_then}
use Rattle.nor_model.proofs.Histories.{continues_then}
use Rattle.nor_driver.specs.OnlyReads.{OnlyReadsHonest, OnlyReads, Spent, IsSteadyOrIdle}
pub use Rattle.nor_driver.proofs.ReadsInTurn.{only_reads_more as only_reads_most}
use Rattle.nor_journal.specs.Text.{Content}
use Rattle.nor_journal.specs.Saved.{saved_byte}
use Rattle.nor_apply.specs.declared.changes.Changes.{Changes}
use Rattle.nor_apply.specs.declared.changes.Work.{Work}
use Rattle.nor_geometry.specs.Counts.{sector_count}
use Rattle.nor_plan.specs.Content.{once_erased}
use Rattle.nor_driver.specs.Limits.{Spends}
use Rattle.nor_session.specs.Checking.{CanCheck}
use Rattle.nor_apply.specs.Applying.{ErasesFirst, touched_in, raised_in, status_writes}
use Rattle.nor_driver.specs.StatusWrites.{fixed_of}
use Rattle.nor_request.specs.Request.{wanted}
use Rattle.nor_apply.proofs.Kept.{fixed_coded, coded_from_status}
use Rattle.nor_apply.proofs.Changing.{narrower}
use Rattle.nor_request.specs.declared.report.Report.{Report}
use Rattle.nor_request.specs.Errors.{EndsAtError}
use Rattle.nor_request.specs.declared.refusal.Refusal.{Refusal}
use Rattle.nor_request.specs.declared.refusal.Refusal.TheVariants.{Stopped, Timeout, Mismatch}
use Rattle.nor_session.specs.declared.prepare_restore.PreparedRestore.{PreparedRestore}
use Rattle.nor_probe.specs.Known.{IsModelled}
use Rattle.nor_scan.specs.Saving.{SomeProtected}
use Rattle.nor_session.specs.Bounds.{most_reads, most_of}
use Rattle.nor_session.specs.Session.{HonestErrors, IsWithinCounts, CountsChanges}
use Rattle.nor_session.specs.Changing.{HasBytes, LeavesChange, DoesChange, ChangeErrors}
use Rattle.nor_session.specs.declared.announcement.Announcement.{Announcement}
use Rattle.nor_session.specs.Announcing.{Announces}
use Rattle.nor_session.specs.Headline.{CanRestore, RestoresOriginal, RewritesOriginal}
use Rattle.nor_session.specs.Restore.{Choice, restored, NeedsStatusBy, IsCheckedFirst, IsRestoreRefusal, ErrorsBy, LeavesBy, IsRestoredBy, FitsReplies}
use Rattle.nor_session.specs.PrepareRestore.{PrepareErrors, IsPreparedRestore, IsSoundChoice}
use Rattle.nor_session.proofs.OneRestoreVerdict.{judged_verdict, accepted_restorable}
use Rattle.nor_session.proofs.Changed.{touched_most, two_writes, no_write, fewest_at}
use Rattle.nor_session.proofs.Rescanned.{restored_saved}
use Rattle.nor_session.proofs.RestoredBytes.{written_restored, pages_same}
use Rattle.nor_session.proofs.RestoredOriginal.{within_after_reads, change_within, same_as_original}
use Rattle.nor_session.proofs.WrittenBack.{known_kept}

pub only_reads_spend : (few most : ℕ) (old new : BusState) → few ≤ most → OnlyReads few old new → Spends most old new
only_reads_spend few most old new fits only_reads = search (arith, only_reads_most)

module _ (choice : Choice) (journal : Content) (most : ℕ) (old new : BusState) where
  pub prepare_answers : (refusal : Refusal) → PrepareErrors choice journal most old new refusal → IsRestoreRefusal refusal
  prepare_answers Stopped errors = refl
  prepare_answers (Timeout address) errors = refl
  prepare_answers (Mismatch address) errors = refl
  prepare_answers _ errors = errors.judged

  pub prepare_fails : (refusal : Refusal) → most ≤ most_of (length journal.saved) → old.honest ≡ true
      → PrepareErrors choice journal most old new refusal
      → HonestErrors (most_of (length journal.saved)) IsCheckedFirst old new refusal
  prepare_fails Stopped fits honest errors = λ punctual. let out = errors.ran_out honest punctual in omega arith
  prepare_fails (Timeout address) fits honest errors = errors.2 honest
  prepare_fails _ fits honest errors = λ first. errors.same honest

  pub prepare_errors : (refusal : Refusal) → most ≤ most_of (length journal.saved) → IsModelled old
      → PrepareErrors choice journal most old new refusal → ErrorsBy choice journal old new refusal
  prepare_errors Stopped fits modelled errors = λ punctual.
      let out = errors.ran_out modelled.honest punctual in omega arith
  prepare_errors (Timeout address) fits modelled errors = absurd (errors.2 modelled.honest)
  prepare_errors refusal fits modelled errors = judged_verdict old.further choice journal old.chip refusal (errors.verdict modelled)

  pub prepare_last : (refusal : Refusal) → PrepareErrors choice journal most old new refusal
      → EndsAtError refusal new.history
  prepare_last Stopped errors = errors.last
  prepare_last (Timeout address) errors = errors.1
  prepare_last (Mismatch address) errors = absurd (true≢false (sym errors.judged))
  prepare_last _ errors = tt

  pub leaves_after_reads : OnlyReadsHonest most old new → LeavesBy choice journal old new
  leaves_after_reads honest_reads =
      let fixed = λ (steady_or_idle : IsSteadyOrIdle old). ap fixed_of (honest_reads.stays.steady_or_idle steady_or_idle).kept in search arith

pub can_restore_after_reads : (journal : Content) (first : Chip) (most : ℕ) (old new : BusState) → old.honest ≡ true → OnlyReads most old new → CanRestore journal first old → CanRestore journal first new
can_restore_after_reads journal first most old new honest only_reads can =
    let known = known_kept first only_reads.nature.further can.known in
    assumption (within_after_reads _ first most old new only_reads.nature.steady (only_reads.honest_reads honest) can.within)

pub changed_fits : {journal : Content} {old mid new : BusState} → FitsReplies journal old mid → KeepsNature mid new
    → FitsReplies journal old new
changed_fits fits later = search (continues_then fits.after later.history)

pub record AreChanged (choice : Choice) (journal : Content) (prepared : PreparedRestore) (old mid new : BusState) : Type 0 where
  pub sound : IsSoundChoice choice
  pub only_reads : OnlyReads (most_reads (choice.reads (length journal.saved))) old mid
  pub is : IsPreparedRestore choice journal old mid prepared
  pub leaves : LeavesChange prepared.changes (saved_byte journal) mid new

pub changed_can_restore : (choice : Choice) (journal : Content) (first : Chip) (prepared : PreparedRestore) (old mid new : BusState) → AreChanged choice journal prepared old mid new → IsModelled old → CanRestore journal first old → CanRestore journal first new
changed_can_restore choice journal first prepared old mid new are modelled can =
    let for = are.is.modelled modelled in
    let may = are.leaves.reached (are.only_reads.nature.honest ∙ modelled.honest) for.can in
    let before = can_restore_after_reads journal first (most_reads (choice.reads (length journal.saved))) old mid modelled.honest are.only_reads can in
    let touched : touched_in prepared.changes ≡ choice.touched journal old.chip.bytes = fun_ext for.touched in
    let free : is_locked old.chip.kept ≡ true → ¬ SomeProtected (touched_in prepared.changes) old.chip
    = λ locked some. for.accepted.not_locked locked (inr (rw touched at some)) in
    let known = known_kept first are.leaves.spends.nature.further before.known in
    assumption (change_within journal first _ _ (saved_byte journal) old mid new can before.within are.is.saved free may)

module _ (choice : Choice) (journal : Content) (prepared : PreparedRestore) (old mid new : BusState) where
  pub changed_reads : AreChanged choice journal prepared old mid new → OnlyReads (most_reads 4096) old mid
  changed_reads are = let few = are.sound.few (length journal.saved) in let room = are.is.room in
      only_reads_most (most_reads (choice.reads (length journal.saved))) (most_reads 4096) old mid (omega arith)
      are.only_reads

  pub changed_spends : AreChanged choice journal prepared old mid new → Spends (most_of (length journal.saved)) old new
  changed_spends are =
      let few = are.sound.few (length journal.saved) in let before = are.only_reads.nature in record {
        nature = nature_then old mid new are.leaves.spends.nature before;
        falls = λ honest punctual.
            let sent = are.is.sent honest punctual in
            let falls = are.leaves.spends.falls (before.honest ∙ honest) (before.punctual ∙ punctual) in
            search arith;
      }

  pub changed_leaves : AreChanged choice journal prepared old mid new → IsModelled old → LeavesBy choice journal old new
  changed_leaves are modelled =
      let may = are.leaves.reached (are.only_reads.nature.honest ∙ modelled.honest) (are.is.modelled modelled).can in
      let stays = (are.only_reads.honest_reads modelled.honest).stays in
      let fixed = λ (steady_or_idle : IsSteadyOrIdle old). may.within.fixed ∙ ap fixed_of (stays.steady_or_idle steady_or_idle).kept in
      search (arith, narrower)

  pub change_fails : (refusal : Refusal) → AreChanged choice journal prepared old mid new → old.honest ≡ true
      → ChangeErrors prepared.changes (saved_byte journal) mid new refusal
      → HonestErrors (most_of (length journal.saved)) IsCheckedFirst old new refusal
  change_fails Stopped are honest errors = λ punctual.
      let before = are.only_reads.nature in
      let ran = errors.ran_out (before.honest ∙ honest) (before.punctual ∙ punctual) in
      let sent = are.is.sent honest punctual in
      let few = are.sound.few (length journal.saved) in search arith
  change_fails (Timeout address) are honest errors = errors.1 (are.only_reads.nature.honest ∙ honest)
  change_fails (Mismatch address) are honest errors = λ first. absurd (true≢false (sym first))
  change_fails _ are honest errors = absurd errors

  pub change_errors : (refusal : Refusal) → AreChanged choice journal prepared old mid new → IsModelled old
      → ChangeErrors prepared.changes (saved_byte journal) mid new refusal → ErrorsBy choice journal old new refusal
  change_errors Stopped are modelled errors = change_fails Stopped are modelled.honest errors
  change_errors (Timeout address) are modelled errors = absurd (errors.1 (are.only_reads.nature.honest ∙ modelled.honest))
  change_errors (Mismatch address) are modelled errors =
      absurd (errors.1 (are.only_reads.nature.honest ∙ modelled.honest) (are.is.modelled modelled).can)
  change_errors _ are modelled errors = absurd errors

  pub change_stops : (refusal : Refusal) → AreChanged choice journal prepared old mid new → IsModelled old
      → ChangeErrors prepared.changes (saved_byte journal) mid new refusal → refusal ≡ Stopped
  change_stops Stopped are modelled errors = refl
  change_stops (Timeout address) are modelled errors = absurd (errors.1 (are.only_reads.nature.honest ∙ modelled.honest))
  change_stops (Mismatch address) are modelled errors =
      absurd (errors.1 (are.only_reads.nature.honest ∙ modelled.honest) (are.is.modelled modelled).can)
  change_stops _ are modelled errors = absurd errors

pub change_answers : (changes : Changes) (wanted : ℕ → ℕ) (old new : BusState) (refusal : Refusal) → ChangeErrors changes wanted old new refusal → IsRestoreRefusal refusal
change_answers changes wanted old new Stopped errors = refl
change_answers changes wanted old new (Timeout address) errors = refl
change_answers changes wanted old new (Mismatch address) errors = refl
change_answers changes wanted old new _ errors = absurd errors

pub change_not_judged : (changes : Changes) (wanted : ℕ → ℕ) (old new : BusState) (refusal : Refusal) → ChangeErrors changes wanted old new refusal → ¬ IsCheckedFirst refusal
change_not_judged changes wanted old new Stopped errors judged = true≢false (sym judged)
change_not_judged changes wanted old new (Timeout address) errors judged = true≢false (sym judged)
change_not_judged changes wanted old new (Mismatch address) errors judged = true≢false (sym judged)
change_not_judged changes wanted old new _ errors judged = errors

pub change_last : (changes : Changes) (wanted : ℕ → ℕ) (old new : BusState) (refusal : Refusal)
    → ChangeErrors changes wanted old new refusal → EndsAtError refusal new.history
change_last changes wanted old new Stopped errors = errors.last
change_last changes wanted old new (Timeout address) errors = errors.0
change_last changes wanted old new (Mismatch address) errors = errors.0
change_last changes wanted old new _ errors = absurd errors

abbrev pub report_of : PreparedRestore → Work → ℕ → Report
report_of prepared work sent = record {
  found = prepared.found;
  touched = prepared.touched;
  erases = work.erases;
  programs = work.programs;
  transactions = sent;
}

module _ (choice : Choice) (journal : Content) (prepared : PreparedRestore) (old mid new : BusState) (work : Work) where
  module _ (sent : ℕ) (are : AreChanged choice journal prepared old mid new)
      (does : DoesChange prepared.changes (saved_byte journal) true mid new work) where
    restored_within : (writes : ℕ) → sent ≡ prepared.transactions + work.transactions
        → status_writes prepared.changes ≤ writes
        → IsWithinCounts (choice.reads (length journal.saved)) (length journal.saved) writes true (report_of prepared work sent)
    restored_within writes sum fits = search arith

    pub restored_bounded : sent ≡ prepared.transactions + work.transactions
        → IsWithinCounts (choice.reads (length journal.saved)) (length journal.saved) 2 true (report_of prepared work sent)
    restored_bounded sum = restored_within 2 sum (two_writes prepared.changes)

    pub restored_changing : sent ≡ prepared.transactions + work.transactions
        → CountsChanges (choice.reads (length journal.saved)) 2 true old new (report_of prepared work sent)
    restored_changing sum = record {
      before = mid;
      first = prepared.transactions;
      changing = work.transactions;
      only_read = record {
        nature = are.only_reads.nature;
        same_sent = are.only_reads.sent;
        polled_ready = λ ready. are.is.polled_ready;
        rested = are.is.rested;
        sent = are.is.sent;
      };
      few = are.is.most;
      sum = sum;
      added = record {
        all = does.added.all;
        few_others = omega (arith, does.added.few_others, are.is.count, two_writes prepared.changes);
      };
    }

    pub restored_sparing : sent ≡ prepared.transactions + work.transactions → IsModelled old
        → ¬ NeedsStatusBy choice journal old.chip
        → IsWithinCounts (choice.reads (length journal.saved)) (length journal.saved) 0 true (report_of prepared work sent)
    restored_sparing sum modelled none =
        restored_within 0 sum (no_write prepared.changes (λ writes. none ((are.is.modelled modelled).needed writes)))

    pub restored_counted : sent ≡ prepared.transactions + work.transactions → old.honest ≡ true
        → Spent sent old new
    restored_counted sum honest punctual =
        let before = are.only_reads.nature in
        let prepared = are.is.sent honest punctual in
        let done = does.sent (before.honest ∙ honest) (before.punctual ∙ punctual) in search arith

    pub restored_checked : old.honest ≡ true → old.chip.config.size ≡ journal.size
        → HasBytes (choice.touched journal old.chip.bytes) (restored journal old.chip.bytes) new.chip
    restored_checked honest sized a hit =
        let config = are.only_reads.nature.config honest in
        let touched : touched_in prepared.changes (a / 4096) ≡ true = are.is.touched honest sized (a / 4096) ∙ hit in
        let can : CanCheck (touched_in prepared.changes) mid.chip = record {
          idle = are.is.idle honest;
          inside = λ s is. rw config
              (let inside = are.is.consistent.inside s is in let same = are.is.sized in omega arith);
        } in
        does.checked refl (are.only_reads.nature.honest ∙ honest) can a touched
        ∙ sym (restored_saved journal old.chip.bytes a (are.is.saved (a / 4096) touched))

    pub restored_done : IsModelled old → IsRestoredBy choice journal old new (report_of prepared work sent)
    restored_done modelled =
        let honest = are.only_reads.nature.honest ∙ modelled.honest in
        let rested = are.is.rested modelled.honest in let same = rested.unchanged.same in
        let for = are.is.modelled modelled in
        let changes = prepared.changes in
        let applied = does.done honest for.can in
        let touched : touched_in changes ≡ choice.touched journal old.chip.bytes = fun_ext for.touched in
        let raised : raised_in changes ≡ choice.raised journal old.chip.bytes = fun_ext for.raised in
        let bytes : mid.chip.bytes ≡ old.chip.bytes = fun_ext same.bytes in
        record {
          accepted = accepted_restorable old.further choice journal old.chip for.accepted;
          made = record {
            config = applied.config ∙ same.config;
            bytes = λ a. written_restored journal old.chip.bytes mid.chip.bytes new.chip.bytes (touched_in changes) a
                are.is.saved (λ s other. for.touched s ∙ are.sound.differs journal old.chip.bytes s other)
                (same.bytes a) (applied.bytes a);
            fixed = ap fixed_of applied.kept ∙ fixed_coded changes.code mid.chip.kept ∙ ap fixed_of same.kept;
            idle = applied.idle;
            latch = λ set. rested.latch (applied.latch set);
          };
          reported = record {
            worn = λ s. cc (rested.unchanged.worn s, applied.worn s);
            shown = for.shown;
            status1 = for.status1;
            replied = for.replied;
            sectors = are.is.count ∙ ap sector_count touched;
            erases = fewest_at old.chip.config _ work.erases
                (λ s is. let inside = are.is.consistent.inside s (are.is.consistent.raised s (for.raised s ∙ is)) in let size = for.size in omega arith)
                (let erases = does.erases in let kinds = for.kinds in let size = for.size in cc);
            programs = (let programs = does.programs honest for.can in
                let saved = are.sound.saved journal old.chip.bytes in
                let merged = pages_same (choice.touched journal old.chip.bytes)
                (once_erased (choice.raised journal old.chip.bytes) old.chip.bytes) (saved_byte journal)
                (restored journal old.chip.bytes)
                (λ a hit. sym (restored_saved journal old.chip.bytes a (saved (a / 4096) hit))) in
                cc);
          };
          kept = applied.kept
              ∙ rw (for.code, same.kept) (coded_from_status journal.status old.chip.kept for.accepted.fits.fixed.fixed);
          unsent = λ none never.
              let writes = no_write changes (λ needed. never (for.needed needed)) in let count = are.is.count in
              does.unsent (omega arith) ∙ are.only_reads.sent;
        }

pub restored_original : (choice : Choice) (journal : Content) (first : Chip) (old new : BusState) (report : Report) → CanRestore journal first old → IsRestoredBy choice journal old new report → IsSame first new.chip
restored_original choice journal first old new report can done = search (arith, same_as_original)

pub work_fits : (prepared : PreparedRestore) {wanted : ℕ → ℕ} {old new : BusState} (work : Work)
    → prepared.transactions ≤ most_reads 4096 → DoesChange prepared.changes wanted true old new work
    → prepared.transactions + work.transactions < 2 ^ 64
work_fits prepared work fits does =
    let most = touched_most prepared.changes in let writes = two_writes prepared.changes in omega arith

pub announces_since : {Was : Announcement → Type 0} {old mid new : BusState} {result : Result Report Refusal}
    → mid.sent ≡ old.sent → Announces Was mid new result → Announces Was old new result
announces_since unsent announces = record {
  announced_or_unsent = elim announces.announced_or_unsent [ inl was ↦ inl was | inr same ↦ inr (same ∙ unsent) ];
  as_reported = announces.as_reported;
}

pub rewrites : {journal : Content} {old new : BusState} {result : Result Report Refusal}
    → RestoresOriginal journal old new result → RewritesOriginal journal old new result
rewrites restores = record {
  within = restores.within;
  back = restores.back;
  only_stops = λ first can unprotected. restores.only_stops first can;
}

erased_since : {raised saved : ℕ → Bool} {old mid new : BusState} → mid.sent ≡ old.sent
    → ((s : ℕ) → raised s ≡ saved s) → ErasesFirst raised mid new → ErasesFirst saved old new
erased_since unsent every first = record {
  erasing = first.erasing;
  later = first.later;
  added = first.added ∙ ap (λ (sent : Sent). first.later ++ (first.erasing ++ sent)) unsent;
  each = λ s is. first.each s (every s ∙ is);
  unprogrammed = first.unprogrammed;
  unerased = first.unerased;
}

pub thorough_since : {raised saved : ℕ → Bool} (old mid new : BusState) (result : Result Report Refusal)
    → mid.sent ≡ old.sent → ((s : ℕ) → raised s ≡ saved s) → OnOk result (ErasesFirst raised mid new)
    → OnOk result (ErasesFirst saved old new)
thorough_since old mid new result unsent every first = on_ok_weaker result (erased_since unsent every) first
