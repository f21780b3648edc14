use Rattle.std.proofs.Common.{◌≡◌, ◌/◌, ◌∙◌, ℕ, Bool, true, List, slice_index, Result, Ok, Err, refl, sym, subst, true≢false}
use mathlib.Core.Path.{fun_ext}
use Rattle.nor_model.specs.Exchange.{Exchange}
use Rattle.nor_model.specs.History.{Continues}
use Rattle.nor_model.proofs.Histories.{continues_refl, continues_then}
use Rattle.nor_driver.specs.OnlyReads.{OnlyReads}
use Rattle.nor_driver.specs.declared.waits.OperationError.{OperationError}
use Rattle.nor_driver.specs.declared.waits.OperationError.TheVariants as Operations
use Rattle.nor_driver.specs.ReadBack.{bytes_read, HaveBeenRead, ReadsBack, ReadsOther, EndsReadBack, EndsReadOther}
use Rattle.nor_driver.proofs.ReadBack.{read_since}
use Rattle.nor_journal.specs.Text.{Content}
use Rattle.nor_journal.specs.Saved.{saved_byte}
use Rattle.nor_plan.specs.SectorSet.{has}
use Rattle.nor_apply.specs.declared.changes.Changes.{Changes}
use Rattle.nor_apply.specs.declared.changes.Work.{Work}
use Rattle.nor_apply.specs.Applying.{touched_in}
use Rattle.nor_apply.specs.Within.{addresses_of}
use Rattle.nor_request.specs.declared.refusal.Refusal.{Refusal}
use Rattle.nor_request.specs.declared.refusal.Refusal.TheVariants.{Mismatch}
use Rattle.nor_request.specs.declared.report.Report.{Report}
use Rattle.nor_request.specs.Refusal.{of_operation}
use Rattle.nor_session.specs.declared.checks.CheckFault.{CheckFault}
use Rattle.nor_session.specs.declared.checks.CheckFault.TheVariants as Faults
use Rattle.nor_session.specs.Checking.{ChecksReplies, of_check}
use Rattle.nor_session.specs.Changing.{FitsReadBack}
use Rattle.nor_request.specs.declared.request.Request.{Request}
use Rattle.nor_scan.specs.declared.scanning.Scanned.{Scanned}
use Rattle.nor_scan.specs.Scanning.{wanted_at, IsScanned, Scans}
use Rattle.nor_scan.specs.declared.identity.Identity.{Identity}
use Rattle.nor_scan.specs.SavedScan.{SaveErrors}
use Rattle.nor_scan.specs.Judging.{IsIdentityRefusal}
use Rattle.nor_request.specs.Errors.{IdentificationErrors}
use Rattle.nor_session.specs.Bounds.{most_reads}
use Rattle.nor_session.specs.Session.{touched_for, SessionReadsBack}
use Rattle.nor_session.specs.Restore.{Choice, IsLeft, RestoreReadsBack}
use Rattle.nor_session.specs.PrepareRestore.{PrepareErrors}
use Rattle.nor_model.specs.Bus.{BusState}

module _ (changes : Changes) (wanted : ℕ → ℕ) (verify : Bool) where
  pub check_failed : (old new : List Exchange) (fault : CheckFault)
      → ChecksReplies (touched_in changes) wanted old new (Err fault)
      → FitsReadBack changes wanted verify old new (Err (of_check fault))
  check_failed old new Faults.Stopped replies = tt
  check_failed old new (Faults.Mismatch address) replies = (old, continues_refl old, replies)

  pub check_passed : (old new : List Exchange) (sent : ℕ) (work : Work)
      → ChecksReplies (touched_in changes) wanted old new (Ok sent)
      → FitsReadBack changes wanted verify old new (Ok work)
  check_passed old new sent work replies = λ verifies. (old, continues_refl old, replies)

  pub apply_failed : (old new : List Exchange) (error : OperationError)
      → FitsReadBack changes wanted verify old new (Err (of_operation error))
  apply_failed old new Operations.Stopped = tt
  apply_failed old new (Operations.Timeout address) = tt

  pub read_back_later : (old mid new : List Exchange) (result : Result Work Refusal) → Continues old mid
      → FitsReadBack changes wanted verify mid new result → FitsReadBack changes wanted verify old new result
  read_back_later old mid new (Ok work) first fits = λ verifies.
      let ends = fits verifies in (ends.0, continues_then first ends.1, ends.2)
  read_back_later old mid new (Err (Mismatch address)) first fits = (fits.0, continues_then first fits.1, fits.2)
  read_back_later old mid new (Err _) first fits = tt

back_target : (addresses : ℕ → Bool) (one two : ℕ → ℕ) {old new : List Exchange}
    → ((a : ℕ) → addresses a ≡ true → one a ≡ two a) → ReadsBack addresses one old new → ReadsBack addresses two old new
back_target addresses one two same back = record {
  reads = back.reads;
  each = λ a hit. let was = back.each a hit in record { whole = was.whole; same = was.same ∙ same a hit };
}

other_target : (addresses : ℕ → Bool) (one two : ℕ → ℕ) (address : ℕ) {old new : List Exchange}
    → ((a : ℕ) → addresses a ≡ true → one a ≡ two a) → ReadsOther addresses one address old new
    → ReadsOther addresses two address old new
other_target addresses one two address same other = record {
  reads = other.reads;
  is = other.is;
  whole = other.whole;
  differs = λ equal. other.differs (equal ∙ sym (same address other.is));
  before = λ a below hit.
      let was = other.before a below hit in record { whole = was.whole; same = was.same ∙ same a hit };
}

pub restore_read_back : (choice : Choice) (journal : Content) (changes : Changes) (old mid new : BusState)
    → OnlyReads (most_reads 4096) old mid
    → HaveBeenRead (IsLeft choice journal (bytes_read mid.history)) old.history mid.history
    → ((s : ℕ) → has changes.touched s ≡ choice.touched journal (bytes_read mid.history) s)
    → (work : Work) (report : Report)
    → FitsReadBack changes (saved_byte journal) true mid.history new.history (Ok work)
    → RestoreReadsBack choice journal old new (Ok report)
restore_read_back choice journal changes old mid new only_reads since touched work report fits = (
  mid,
  only_reads,
  since,
  subst (λ (sectors : ℕ → Bool).
      EndsReadBack (addresses_of sectors) (saved_byte journal) mid.history new.history) (fun_ext touched)
      (fits refl),
)

pub restore_read_other : (choice : Choice) (journal : Content) (changes : Changes) (old mid new : BusState)
    → OnlyReads (most_reads 4096) old mid
    → ((s : ℕ) → has changes.touched s ≡ choice.touched journal (bytes_read mid.history) s)
    → (refusal : Refusal)
    → FitsReadBack changes (saved_byte journal) true mid.history new.history (Err refusal)
    → RestoreReadsBack choice journal old new (Err refusal)
restore_read_other choice journal changes old mid new only_reads touched (Mismatch address) fits = (
  mid,
  only_reads,
  subst (λ (sectors : ℕ → Bool).
      EndsReadOther (addresses_of sectors) (saved_byte journal) address mid.history new.history)
      (fun_ext touched) fits,
)
restore_read_other choice journal changes old mid new only_reads touched _ fits = tt

pub prepare_read_back : (choice : Choice) (journal : Content) (most : ℕ) (old new : BusState) (refusal : Refusal)
    → PrepareErrors choice journal most old new refusal
    → RestoreReadsBack choice journal old new (Err refusal)
prepare_read_back choice journal most old new (Mismatch address) errors = absurd (true≢false (sym errors.judged))
prepare_read_back choice journal most old new _ errors = tt

module _ (request : Request) (image : List ℕ) where
  pub session_read_other : (kept : Scanned) (size : ℕ) (image' : List ℕ) (changes : Changes)
      (old opened mid new : BusState) → OnlyReads (most_reads 4096) old mid
      → Scans request size image image' opened mid kept → ((s : ℕ) → has changes.touched s ≡ has kept.touched s)
      → (refusal : Refusal)
      → FitsReadBack changes (λ a. slice_index image' a) request.verify mid.history new.history (Err refusal)
      → SessionReadsBack request image old new (Err refusal)
  session_read_other kept size image' changes old opened mid new only_reads scans same (Mismatch address) fits =
      let read = bytes_read mid.history in
      let touched : (s : ℕ) → has changes.touched s ≡ touched_for request image size read s = λ s.
      same s ∙ scans.replied.touched s in (
        size,
        mid,
        only_reads,
        (
          fits.0,
          fits.1,
          subst (λ (sectors : ℕ → Bool).
              ReadsOther (addresses_of sectors) (wanted_at request image size read) address fits.0 new.history)
              (fun_ext touched)
              (other_target _ _ _ address (λ a hit. scans.filled a (sym (same (a / 4096)) ∙ hit)) fits.2),
        ),
      )
  session_read_other kept size image' changes old opened mid new only_reads scans same _ fits = tt

  pub session_read_back : (kept : Scanned) (size : ℕ) (image' : List ℕ) (changes : Changes)
      (old opened mid new : BusState) → Continues old.history opened.history → OnlyReads (most_reads 4096) old mid
      → Scans request size image image' opened mid kept → ((s : ℕ) → has changes.touched s ≡ has kept.touched s)
      → (work : Work) (report : Report) → report.found.size ≡ size
      → FitsReadBack changes (λ a. slice_index image' a) request.verify mid.history new.history (Ok work)
      → SessionReadsBack request image old new (Ok report)
  session_read_back kept size image' changes old opened mid new first only_reads scans same work report sized fits =
      λ verifies.
      let read = bytes_read mid.history in
      let ends = fits verifies in
      let touched : (s : ℕ) → has changes.touched s ≡ touched_for request image size read s = λ s.
      same s ∙ scans.replied.touched s in (
        mid,
        only_reads,
        subst (λ (n : ℕ). HaveBeenRead (IsScanned request n) old.history mid.history) (sym sized)
            (read_since first scans.read),
        (
          ends.0,
          ends.1,
          subst (λ (n : ℕ). ReadsBack (addresses_of (touched_for request image n read)) (wanted_at request image n read)
              ends.0 new.history) (sym sized)
              (subst (λ (sectors : ℕ → Bool).
              ReadsBack (addresses_of sectors) (wanted_at request image size read) ends.0 new.history)
              (fun_ext touched)
              (back_target _ _ _ (λ a hit. scans.filled a (sym (same (a / 4096)) ∙ hit)) ends.2)),
        ),
      )

  pub save_read_back : (identity : Identity) (code : ℕ) (bytes : List ℕ) (old new first last : BusState)
      (refusal : Refusal) → SaveErrors request identity code bytes old new refusal
      → SessionReadsBack request image first last (Err refusal)
  save_read_back identity code bytes old new first last (Mismatch address) errors = absurd errors
  save_read_back identity code bytes old new first last _ errors = tt

  pub judged_read_back : (old new : BusState) (refusal : Refusal) → IsIdentityRefusal refusal
      → SessionReadsBack request image old new (Err refusal)
  judged_read_back old new (Mismatch address) is = absurd is
  judged_read_back old new _ is = tt

  pub open_read_back : (most : ℕ) (old new : BusState) (refusal : Refusal)
      → IdentificationErrors most request.named old new refusal
      → SessionReadsBack request image old new (Err refusal)
  open_read_back most old new (Mismatch address) errors = absurd errors
  open_read_back most old new _ errors = tt
