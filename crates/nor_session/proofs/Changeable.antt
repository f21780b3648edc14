use Rattle.std.proofs.Common.{◌≡◌, ◌<◌, ◌+◌, ◌/◌, ◌∙◌, ◌||◌, ℕ, Bool, true, false, length, ap, sym, refl, arith, rules, inl, inr}
use Rattle.std.specs.Prelude.{None}
use Rattle.std.proofs.lemmas.Bool.{cases_Bool, both_ways, true_from_ne_false}
use mathlib.Core.Path.{fun_ext}
use Rattle.nor_model.specs.declared.config.Config.{Config}
use Rattle.nor_model.specs.Chip.{Chip, kept_in}
use Rattle.nor_model.specs.Status.{bytes_of}
use Rattle.nor_model.specs.Guard.{code_of}
use Rattle.nor_model.proofs.Kept.{kept_same}
use Rattle.nor_model.specs.Bus.{BusState}
use Rattle.nor_model.proofs.Sizes.{sized_bounds}
use Rattle.nor_driver.specs.OnlyReads.{OnlyReads, Rested, Spent, IsOpen}
use Rattle.nor_driver.specs.StatusWrites.{fixed_of}
use Rattle.nor_driver.specs.ReadBack.{bytes_read, HaveBeenRead}
use Rattle.nor_driver.proofs.ReadBack.{read_since}
use Rattle.nor_journal.specs.Text.{Content}
use Rattle.nor_journal.specs.Saved.{is_saved, saved_byte}
use Rattle.nor_plan.specs.SectorSet.{has}
use Rattle.nor_plan.specs.declared.set.SectorSet.{SectorSet}
use Rattle.nor_apply.specs.declared.changes.Changes.{Changes}
use Rattle.nor_geometry.specs.Counts.{sector_count}
use Rattle.nor_apply.specs.Applying.{AreConsistent, CanApply, writes_code}
use Rattle.nor_scan.specs.declared.identity.Identity.{Identity}
use Rattle.nor_scan.specs.declared.scanning.Scanned.{Scanned}
use Rattle.nor_request.specs.declared.refusal.Refusal.TheVariants.{StatusLocked}
use Rattle.nor_scan.specs.Identity.{ReadsIdentity, most_identity}
use Rattle.nor_scan.specs.Saving.{IsIdentityOf}
use Rattle.nor_driver.proofs.RestsInTurn.{rested_then}
use Rattle.nor_plan.specs.Content.{is_raised}
use Rattle.nor_probe.specs.Known.{IsModelled}
use Rattle.nor_session.specs.Changing.{touched_count}
use Rattle.nor_session.specs.Restore.{Choice, restored, IsLeft, NeedsStatusBy}
use Rattle.nor_session.specs.PrepareRestore.{NeedsStatusWith, FitsJournal, FitsIdentity, PrepareErrors, MarksChosen, AreChanges, MayChangeStatus, IsShut, IsPreparedFor, IsPreparedRestore, IsSoundChoice}
use Rattle.nor_session.specs.Restore.{IsOfTypeFound, HasFixedRead}
use Rattle.nor_scan.proofs.Held.{code_same}
use Rattle.nor_apply.proofs.Changing.{narrower}
use Rattle.nor_session.proofs.Changed.{writes_other}
use Rattle.nor_session.proofs.JudgedStatus.{held_scheme, free_address, writable_for}
use Rattle.nor_session.proofs.ReadyChip.{status1_if_idle, opening_of}
use Rattle.nor_session.proofs.Rescanned.{restored_saved}
use Rattle.nor_session.proofs.RestoredBytes.{unraised_byte}

pub record AreRead (choice : Choice) (journal : Content) (identity : Identity) (scanned : Scanned) (old mid new : BusState) : Type 0 where
  pub only_reads : OnlyReads most_identity old mid
  pub opens : ReadsIdentity None old mid identity
  pub kind : IsOfTypeFound journal identity.found
  pub fits : FitsIdentity journal identity
  pub fixed : HasFixedRead journal identity
  pub small : old.honest ≡ true → old.chip.kept.two < 128
  pub scans : MarksChosen choice journal mid new scanned

module _ {choice : Choice} {journal : Content} {identity : Identity} {scanned : Scanned} {old mid new : BusState}
    (read : AreRead choice journal identity scanned old mid new) where
  rested_all : old.honest ≡ true → Rested old new
  rested_all honest =
      rested_then old mid new (read.opens.rested honest) (read.scans.honest_reads.rested (read.only_reads.nature.honest ∙ honest))

  marks_old : IsModelled old
      → (has scanned.touched ≡ choice.touched journal old.chip.bytes)
      × (has scanned.raised ≡ choice.raised journal old.chip.bytes)
  marks_old modelled =
      let same = (read.opens.rested modelled.honest).unchanged.same in
      let is = opening_of modelled read.opens in
      let idle = read.opens.idle modelled.honest in
      let is_open : IsOpen journal.size mid = search rules in
      let bytes : mid.chip.bytes ≡ old.chip.bytes = fun_ext same.bytes in
      (fun_ext (rw bytes at (read.scans.touched is_open)), fun_ext (rw bytes at (read.scans.raised is_open)))

  pub shut_errors : (most : ℕ)
      → ((further : Bool) (chip : Chip) → IsIdentityOf further chip identity → IsShut journal (has scanned.touched) chip)
      → PrepareErrors choice journal most old new StatusLocked
  shut_errors most shut = record {
    judged = refl;
    same = λ honest. (rested_all honest).unchanged.same;
    verdict = λ modelled.
        let is = opening_of modelled read.opens in
        let is_shut = rw (marks_old modelled).0 at (shut old.further old.chip is) in
        (read.fits old.further old.chip (read.small modelled.honest) is, is_shut.locked, is_shut.needs);
  }

scheme_for : {further : Bool} (journal : Content) (touched : ℕ → Bool) (chip : Chip) → FitsJournal further journal chip
    → NeedsStatusWith journal touched chip → chip.config.scheme ≡ true
scheme_for journal touched chip fits (inr some) = held_scheme touched chip some
scheme_for journal touched chip fits (inl differs) =
    true_from_ne_false chip.config.scheme (λ none. differs (ap code_of (fits.fixed.all none)))

module _ {choice : Choice} (sound : IsSoundChoice choice) {journal : Content} {identity : Identity} {scanned : Scanned}
    {changes : Changes} {old mid new : BusState} (read : AreRead choice journal identity scanned old mid new) (are : AreChanges journal identity scanned changes)
    (judged : (further : Bool) (chip : Chip) → IsIdentityOf further chip identity → MayChangeStatus journal (has scanned.touched) chip changes) where
  below : (s : ℕ) → has changes.touched s ≡ true → s < changes.size / 4096
  below s hit = let b = read.scans.marks.below s (rw are.touched at hit) in omega arith

  saved : (s : ℕ) → has changes.touched s ≡ true → is_saved journal s ≡ true
  saved s hit = read.scans.saved s (rw are.touched at hit)

  rises_touched : (s : ℕ) → has changes.raised s ≡ true → has changes.touched s ≡ true
  rises_touched s hit = rw are.touched (read.scans.marks.inside s (rw are.raised at hit))

  prepared_for : (sent : ℕ) → IsModelled old → IsPreparedFor old.further choice journal old.chip new.chip
      record { found = identity.found; changes = changes; touched = scanned.count; transactions = sent }
  prepared_for sent modelled =
      let is = opening_of modelled read.opens in
      let fits = read.fits old.further old.chip (read.small modelled.honest) is in
      let content = old.chip.bytes in let target_bytes = restored journal content in
      let marks = marks_old read modelled in
      let touched : (s : ℕ) → has changes.touched s ≡ choice.touched journal old.chip.bytes s
      = λ s. ap (λ (set : ℕ → Bool). set s) (ap has are.touched ∙ marks.0) in
      let raised : (s : ℕ) → has changes.raised s ≡ choice.raised journal old.chip.bytes s
      = λ s. ap (λ (set : ℕ → Bool). set s) (ap has are.raised ∙ marks.1) in
      let may = rw marks.0 at (judged old.further old.chip is) in
      let same = (rested_all read modelled.honest).unchanged.same in
      let status : code_of (kept_in (bytes_of changes.status)) ≡ code_of old.chip.kept
      = rw (are.one, are.two) (code_same is) in
      let needed : (changes.unlock || writes_code changes) ≡ true
      → NeedsStatusBy choice journal old.chip
      = λ writes. elim (cases_Bool changes.unlock) [
        | inl lifted ↦ inr (may.lifts lifted)
        | inr off ↦ inl (λ same. writes_other changes off writes (status ∙ same ∙ sym are.code))
      ] in
      let shown = read.opens.shown modelled.honest in
      let returned = status1_if_idle None identity old mid modelled.honest read.opens in
      let can : CanApply changes (saved_byte journal) new.chip = record {
        idle =
            let idle = read.opens.idle modelled.honest in
            let rested = read.scans.honest_reads.rested (read.only_reads.nature.honest ∙ modelled.honest) in
            omega arith;
        sized = record { same = cc; same_kinds = cc };
        kept = same.kept
            ∙ kept_same old.chip.kept (kept_in (bytes_of changes.status)) (omega arith) (omega arith);
        inside = λ s hit.
            let b = below s hit in let now = ap (λ (config : Config). config.size) same.config in
            let blocks = (sized_bounds old.chip.config).blocks in
            omega arith;
        free = λ plain a hit. elim may.free [
          | inl lifted ↦ absurd (both_ways changes.unlock plain lifted)
          | inr none ↦
              let b = below (a / 4096) hit in
              free_address same _ a none (sym (touched (a / 4096)) ∙ hit) (omega arith)
        ];
        writable = λ writes.
            writable_for same (scheme_for journal _ old.chip fits (needed writes))
            (λ locked. may.not_locked locked (needed writes));
        raised = rises_touched;
        bytes = λ a hit. read.scans.bytes a (saved (a / 4096) hit);
        falls = λ a hit flat.
            let wanted : target_bytes a ≡ saved_byte journal a = restored_saved journal content a (saved (a / 4096) hit) in
            let flat : is_raised content target_bytes (a / 4096) ≡ false
            = narrower (sound.rises journal content (a / 4096)) (sym (raised (a / 4096)) ∙ flat) in
            let falls = unraised_byte content target_bytes a flat in
            let stays = same.bytes a in
            cc;
      } in
      search rules

  idle_now : old.honest ≡ true → new.chip.busy ≡ 0
  idle_now honest =
      let idle = read.opens.idle honest in
      let rested = read.scans.honest_reads.rested (read.only_reads.nature.honest ∙ honest) in
      omega arith

  touched_if : old.honest ≡ true → old.chip.config.size ≡ journal.size → (s : ℕ)
      → has changes.touched s ≡ choice.touched journal old.chip.bytes s
  touched_if honest sized s =
      let same = (read.opens.rested honest).unchanged.same in
      let bytes : mid.chip.bytes ≡ old.chip.bytes = fun_ext same.bytes in
      let is_open : IsOpen journal.size mid = record {
        honest = read.only_reads.nature.honest ∙ honest;
        idle = read.opens.idle honest;
        same = ap (λ (config : Config). config.size) same.config ∙ sized;
      } in
      ap (λ (set : ℕ → Bool). set s) (ap has are.touched) ∙ rw bytes at (read.scans.touched is_open s)

  read_if : HaveBeenRead (IsLeft choice journal (bytes_read new.history)) old.history new.history
  read_if = read_since read.only_reads.nature.history read.scans.read

  replied_if : (s : ℕ) → has changes.touched s ≡ choice.touched journal (bytes_read new.history) s
  replied_if s = ap (λ (set : ℕ → Bool). set s) (ap has are.touched) ∙ read.scans.replied s

  pub prepared_all : (sent : ℕ) → sent ≡ identity.transactions + choice.reads (length journal.saved)
      → IsPreparedRestore choice journal old new
      record { found = identity.found; changes = changes; touched = scanned.count; transactions = sent }
  prepared_all sent sum =
      let part = read.opens.part.at_most in
      let count : scanned.count ≡ touched_count changes
      = read.scans.marks.count ∙ ap (λ (t : SectorSet). sector_count (has t)) (sym are.touched) in
      let polled_ready = read.scans.honest_reads.polled_ready read.opens.polled_ready in
      let left : old.honest ≡ true → Spent sent old new = λ honest punctual.
      let before = read.only_reads.nature in
      let opened = read.opens.count honest punctual in
      let left = read.scans.honest_reads.sent (before.honest ∙ honest) (before.punctual ∙ punctual) in
      omega arith in
      let fixed : fixed_of (kept_in (bytes_of changes.status)) ≡ fixed_of (kept_in journal.status)
      = rw (are.one, are.two) read.fixed in
      let consistent : AreConsistent changes = search (rules, arith, below, rises_touched) in
      search (rules, arith, saved, rested_all read, idle_now, replied_if, read_if, touched_if, prepared_for sent)
