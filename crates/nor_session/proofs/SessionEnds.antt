-- At every exit after the seal, the journal in a faithful vault can undo the session, on a modelled bus.
use Rattle.std.proofs.Common.{subst, ◌≡◌, ◌<◌, ◌+◌, ◌/◌, ◌∙◌, ℕ, Bool, true, List, ap, sym, arith}
use mathlib.Core.Path.{fun_ext}
use Rattle.std.specs.Prelude.{slice_index}
use Rattle.nor_model.specs.declared.status.Status.{Status}
use Rattle.nor_model.specs.Bus.{BusState}
use Rattle.nor_driver.specs.OnlyReads.{OnlyReads, IsOpen}
use Rattle.nor_journal.specs.Vault.{VaultState}
use Rattle.nor_plan.specs.SectorSet.{has}
use Rattle.nor_apply.specs.declared.changes.Work.{Work}
use Rattle.nor_geometry.specs.Counts.{sector_count}
use Rattle.nor_plan.specs.Content.{once_erased, is_touched, is_raised}
use Rattle.nor_apply.proofs.Changing.{same_change, change_as, change_then}
use Rattle.nor_driver.specs.StatusWrites.{fixed_of, with_code}
use Rattle.nor_apply.proofs.Kept.{fixed_coded}
use Rattle.nor_scan.specs.declared.identity.Identity.{Identity}
use Rattle.nor_scan.specs.declared.saving.SavedScan.{SavedScan}
use Rattle.nor_request.specs.declared.request.Request.{Request}
use Rattle.nor_request.specs.Request.{wanted, scanned_sectors}
use Rattle.nor_scan.specs.Identity.{ReadsIdentity, most_identity}
use Rattle.nor_scan.specs.Saving.{IsIdentityOf}
use Rattle.nor_scan.specs.SavedScan.{HasSaved}
use Rattle.nor_model.proofs.Sizes.{sized_bounds}
use Rattle.nor_scan.proofs.Planned.{touched_past, only_inside, raised_inside}
use Rattle.nor_scan.specs.Scanning.{wanted_at, Scans}
use Rattle.nor_session.specs.Checking.{CanCheck}
use Rattle.nor_model.specs.declared.config.Config.{Config}
use Rattle.nor_probe.specs.Known.{IsModelled}
use Rattle.nor_session.specs.Changing.{HasBytes, LeavesChange, DoesChange}
use Rattle.nor_session.specs.Session.{IsWithinBound, IsDone, CanBeUndone}
use Rattle.nor_session.specs.Made.{IsTargetChip}
use Rattle.nor_scan.specs.Verdict.{NeedsStatusWrite, IdentityAccepts}
use Rattle.nor_session.proofs.Changed.{no_write, fewest_at}
use Rattle.nor_session.proofs.Ready.{Ready, changes_of, bounded_by}
use Rattle.nor_session.proofs.ReadyChip.{is_opening, status1_if_idle, shows, named}
use Rattle.nor_session.proofs.SessionChanges.{ReadyChip, can_apply, needs}
use Rattle.nor_session.proofs.RestoredBytes.{untouched_byte, pages_same}

module _ (request : Request) (image image' : List ℕ) (identity : Identity) (status : Status) (code : ℕ)
    (kept : SavedScan) (old mid : BusState) where
  pub ready_chip : (new : BusState) (vault : VaultState) → IsModelled old → OnlyReads most_identity old mid
      → ReadsIdentity request.named old mid identity → Ready request identity status code kept old new
      → (IsIdentityOf old.further old.chip identity → IdentityAccepts old.further request image old.chip code)
      → HasSaved request identity code image image' mid new vault kept → ((a : ℕ) → slice_index image' a < 256)
      → old.chip.kept.two < 128 → ReadyChip request image image' identity code kept old new
  ready_chip new vault modelled only_reads opens is accepts keeps bytes small =
      search (arith, is_opening, named, shows, status1_if_idle)

  pub can_be_undone : (ready new : BusState) (vault : VaultState) → IsModelled old → OnlyReads most_identity old mid
      → ReadsIdentity request.named old mid identity → HasSaved request identity code image image' mid ready vault kept
      → Ready request identity status code kept old ready → ReadyChip request image image' identity code kept old ready
      → LeavesChange (changes_of identity kept status code) (λ a. slice_index image' a) ready new
      → CanBeUndone request image old new vault
  can_be_undone ready new vault modelled only_reads opens keeps is of leaves =
      let opened = is_opening request identity old mid modelled opens in
      let chip = keeps.chip old.further old.chip opened (shows request identity old mid modelled only_reads opens) in
      let honest = is.honest_reads.nature.honest ∙ modelled.honest in
      let unchanged = of.rested.unchanged in
      let can = can_apply request image image' identity status code kept old ready is of in
      record {
        accepted = of.scan.accepted;
        journal = chip.journal;
        further = leaves.spends.nature.further ∙ is.honest_reads.nature.further;
        changes = change_then is.honest_reads.nature.steady (same_change unchanged.same of.idle unchanged.worn)
            (change_as (λ s hit. sym (of.touched s) ∙ hit) (λ s hit. sym (of.raised s) ∙ hit)
            (λ a plain hit. of.merged a hit) (leaves.reached honest can));
        spent = λ punctual.
            let sent = is.honest_reads.sent modelled.honest punctual in
            let fell = (leaves.spends.falls honest (is.honest_reads.nature.punctual ∙ punctual)).fell in
            let least = is.least in let reads = is.reads ∙ ap (scanned_sectors request) opened.config.size in
            omega arith;
      }

  pub done : (new : BusState) (verify : Bool) (work : Work) (sent : ℕ) → Ready request identity status code kept old mid
      → ReadyChip request image image' identity code kept old mid
      → DoesChange (changes_of identity kept status code) (λ a. slice_index image' a) verify mid new work
      → IsDone request image old new (record { found = identity.found; touched = kept.scanned.count; erases = work.erases; programs = work.programs; transactions = identity.transactions + sent + work.transactions })
  done new verify work sent is of does =
      let honest = is.honest_reads.nature.honest ∙ of.honest in
      let can = can_apply request image image' identity status code kept old mid is of in
      let applied = does.done honest can in
      let same = of.rested.unchanged.same in
      let blocks = is.part.in_blocks in let size = of.is.config.size in
      let fixed = ap fixed_of applied.kept ∙ fixed_coded code mid.chip.kept ∙ ap fixed_of same.kept in
      let made : IsTargetChip (wanted request image old.chip) old.chip new.chip = search (arith, untouched_byte) in
      let target_bytes = wanted request image old.chip in
      let touched : has kept.scanned.touched ≡ is_touched old.chip.bytes (wanted request image old.chip) = fun_ext of.touched in
      let raised : has kept.scanned.raised ≡ is_raised old.chip.bytes (wanted request image old.chip) = fun_ext of.raised in
      let bytes : mid.chip.bytes ≡ old.chip.bytes = fun_ext same.bytes in
      record {
        made = made;
        reported = record {
          worn = λ s. cc (of.rested.unchanged.worn s, applied.worn s);
          shown = of.shown;
          status1 = of.is.one;
          replied = of.replied;
          sectors = is.marks.count ∙ ap sector_count touched;
          erases = fewest_at old.chip.config _ work.erases
              (λ s hit. raised_inside request image old.chip.config.size old.chip.bytes s (sized_bounds old.chip.config).blocks hit)
              (let erases = does.erases in let kinds = of.is.config.kinds in let size = of.is.config.size in cc);
          programs = (let programs = does.programs honest can in
              let merged = pages_same (has kept.scanned.touched)
              (once_erased (has kept.scanned.raised) mid.chip.bytes) (λ a. slice_index image' a) target_bytes of.merged in
              cc);
        };
        code = code;
        is_wanted = of.accepts.is_wanted;
        kept = applied.kept ∙ ap (with_code code) same.kept;
        unsent = λ none never.
            let writes = no_write (changes_of identity kept status code) (λ needed. never (code, of.accepts.is_wanted, needs request image image' identity status code kept old mid is of needed)) in
            let count = is.marks.count in
            does.unsent (omega arith) ∙ is.honest_reads.same_sent;
      }

  pub session_checked : (opened new : BusState) (work : Work) → OnlyReads most_identity old opened
      → ReadsIdentity request.named old opened identity → Scans request identity.found.size image image' opened mid kept.scanned
      → Ready request identity status code kept old mid
      → DoesChange (changes_of identity kept status code) (λ a. slice_index image' a) request.verify mid new work
      → request.verify ≡ true → old.honest ≡ true → old.chip.config.size ≡ identity.found.size
      → HasBytes (is_touched old.chip.bytes (wanted request image old.chip)) (wanted request image old.chip) new.chip
  session_checked opened new work only_reads opens scans is does verifies honest sized a hit =
      let same = (opens.rested honest).unchanged.same in
      let bytes : opened.chip.bytes ≡ old.chip.bytes = fun_ext same.bytes in
      let is_open : IsOpen identity.found.size opened = record {
        honest = only_reads.nature.honest ∙ honest;
        idle = opens.idle honest;
        same = ap (λ (config : Config). config.size) same.config ∙ sized;
      } in
      let target_bytes = wanted_at request image identity.found.size old.chip.bytes in
      let hit : is_touched old.chip.bytes target_bytes (a / 4096) ≡ true =
      subst (λ (n : ℕ). is_touched old.chip.bytes (wanted_at request image n old.chip.bytes) (a / 4096) ≡ true) sized hit in
      let past = touched_past request image identity.found.size old.chip.bytes (a / 4096) is.part.in_blocks in
      let marked : has kept.scanned.touched (a / 4096) ≡ true =
      rw bytes at ((scans.right is_open).touched (a / 4096))
      ∙ only_inside (is_touched old.chip.bytes target_bytes) (identity.found.size / 4096) (a / 4096) past ∙ hit in
      let can : CanCheck (has kept.scanned.touched) mid.chip = record {
        idle =
            let rested = scans.rested (only_reads.nature.honest ∙ honest) in
            let idle = opens.idle honest in omega arith;
        inside = λ s is_touched.
            let below = is.marks.below s is_touched in
            let config = ap (λ (config : Config). config.size) (is.honest_reads.nature.config honest) in omega arith;
      } in
      let wanted_byte : slice_index image' a ≡ target_bytes a = rw bytes at (scans.merged is_open a marked) in
      let read = does.checked verifies (is.honest_reads.nature.honest ∙ honest) can a marked in
      read ∙ wanted_byte ∙ sym (ap (λ (n : ℕ). wanted_at request image n old.chip.bytes a) sized)

  pub spared : (new : BusState) (target_bytes : ℕ → ℕ) (verify : Bool) (work : Work) (sent : ℕ) → sent ≡ kept.scanned.reads
      → Ready request identity status code kept old mid → ReadyChip request image image' identity code kept old mid
      → ¬ NeedsStatusWrite request image old.chip
      → DoesChange (changes_of identity kept status code) target_bytes verify mid new work
      → IsWithinBound (scanned_sectors request old.chip.config.size) 0 verify
      (record { found = identity.found; touched = kept.scanned.count; erases = work.erases; programs = work.programs; transactions = identity.transactions + sent + work.transactions })
  spared new target_bytes verify work sent is_sent is of none does =
      let never = no_write (changes_of identity kept status code) (λ writes. none (code, of.accepts.is_wanted, needs request image image' identity status code kept old mid is of writes)) in
      subst (λ (n : ℕ). IsWithinBound (scanned_sectors request n) 0 verify (record { found = identity.found; touched = kept.scanned.count; erases = work.erases; programs = work.programs; transactions = identity.transactions + sent + work.transactions }))
      of.is.config.size
      (bounded_by request identity status code kept old mid new target_bytes verify work sent 0 is_sent is never does)
