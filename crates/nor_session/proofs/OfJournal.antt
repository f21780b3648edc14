use Rattle.std.proofs.Common.{◌≡◌, ◌<◌, ◌*◌, ◌/◌, ◌%◌, ◌∙◌, ℕ, Bool, true, false, List, inl, inr, ap, sym, refl, arith, true≢false}
use Rattle.nor_model.specs.declared.status.Status.{Status}
use Rattle.nor_model.specs.Status.{bytes_of}
use Rattle.nor_model.specs.Chip.{kept_in}
use Rattle.nor_model.specs.Guard.{code_of}
use Rattle.nor_model.specs.Bus.{BusState}
use Rattle.nor_driver.specs.StatusWrites.{fixed_of}
use Rattle.nor_plan.specs.SectorSet.{has}
use Rattle.nor_journal.specs.Text.{Content, SameHeader}
use Rattle.nor_apply.specs.declared.changes.Work.{Work}
use Rattle.nor_request.specs.declared.request.Request.{Request}
use Rattle.nor_request.specs.declared.request.What.{What}
use Rattle.nor_request.specs.declared.request.What.TheVariants.{WpRange}
use Rattle.nor_request.specs.Request.{is_data}
use Rattle.nor_scan.specs.declared.identity.Identity.{Identity}
use Rattle.nor_scan.specs.declared.saving.SavedScan.{SavedScan}
use Rattle.nor_scan.specs.Identity.{status_read}
use Rattle.nor_scan.specs.Saving.{header_found, kept_read}
use Rattle.nor_scan.specs.Judging.{IsFoundCode}
use Rattle.nor_scan.specs.SavedScan.{IsJournal, IsJournalOf}
use Rattle.nor_session.specs.Changing.{LeavesChange, DoesChange}
use Rattle.nor_session.specs.Restore.{Choice}
use Rattle.nor_session.specs.PrepareRestore.{IsPreparedRestore}
use Rattle.nor_session.specs.Session.{IsSavedCode, IsWrittenCode, SendsSaved, SendsCounted}
use Rattle.nor_session.specs.declared.prepare_restore.PreparedRestore.{PreparedRestore}
use Rattle.nor_session.proofs.Targeting.{AreOfJournal, change_sends}
use Rattle.nor_session.proofs.Ready.{Ready, changes_of, lifts_none}

kept_fixed : (identity : Identity) → fixed_of (kept_in (kept_read identity)) ≡ fixed_of (kept_in (status_read identity))
kept_fixed identity =
    let first : identity.found.status1 / 4 * 4 / 4 / 32 ≡ identity.found.status1 / 4 / 32 = omega arith in
    let second : identity.status2 % 128 % 128 % 64 ≡ identity.status2 % 128 % 64 = omega arith in
    rw (first, second) refl

kept_code : (identity : Identity) → code_of (kept_in (kept_read identity)) ≡ code_of (kept_in (status_read identity))
kept_code identity = omega arith

found_written : (what : What) (identity : Identity) (journal : Content) (code : ℕ) → SameHeader (header_found identity) journal
    → IsFoundCode what identity code → IsWrittenCode what journal code
found_written (WpRange start len) identity journal code same is =
    let size = ap (λ (c : Content). c.size) same in rw (← size) is
found_written _ identity journal code same is =
    let status = ap (λ (c : Content). c.status) same in
    inr (is ∙ sym (kept_code identity) ∙ ap (λ (bytes : List ℕ). code_of (kept_in bytes)) status)

lifted_written : (what : What) (journal : Content) (lifted : Bool) → (is_data what ≡ false → lifted ≡ false)
    → lifted ≡ true → IsWrittenCode what journal 0
lifted_written (WpRange start len) journal lifted none lifts = absurd (true≢false (sym lifts ∙ none refl))
lifted_written _ journal lifted none lifts = inl refl

module _ {request : Request} {identity : Identity} {status : Status} {code : ℕ} {kept : SavedScan} {old mid : BusState}
    (is : Ready request identity status code kept old mid) (small : code < 64)
    (found : IsFoundCode request.what identity code) where
  pub session_of_journal : {bytes : List ℕ}
      → (journal : IsJournalOf (header_found identity) (has kept.scanned.touched) bytes)
      → AreOfJournal (IsWrittenCode request.what journal.content) journal.content (changes_of identity kept status code)
  session_of_journal journal =
      let same = journal.head_same in
      let read : fixed_of (kept_in (bytes_of status)) ≡ fixed_of (kept_in (status_read identity))
      = ap (λ (bytes : List ℕ). fixed_of (kept_in bytes)) is.is_status in
      let head : fixed_of (kept_in (kept_read identity)) ≡ fixed_of (kept_in journal.content.status)
      = ap (λ (c : Content). fixed_of (kept_in c.status)) same in
      record {
        sized = sym (ap (λ (c : Content). c.size) same);
        saved = λ s touched. journal.saved s ∙ touched;
        raised = is.marks.inside;
        fixed = read ∙ sym (kept_fixed identity) ∙ head;
        small = small;
        lifted = lifted_written request.what journal.content kept.unlock (lifts_none is);
        code = found_written request.what identity journal.content code same found;
      }

  pub session_sends : {bytes : List ℕ} {wanted : ℕ → ℕ} {new : BusState} → mid.sent ≡ old.sent
      → LeavesChange (changes_of identity kept status code) wanted mid new
      → IsJournalOf (header_found identity) (has kept.scanned.touched) bytes
      → (journal : IsJournal bytes) × SendsSaved (IsWrittenCode request.what journal.content) 1 journal.content old new
  session_sends unsent leaves journal = (
    record { content = journal.content; is = journal.is; same = journal.same },
    change_sends old unsent leaves _ journal.content (session_of_journal journal),
  )

pub restore_of_journal : {choice : Choice} {journal : Content} {old mid : BusState} {prepared : PreparedRestore}
    → IsPreparedRestore choice journal old mid prepared → AreOfJournal (IsSavedCode journal) journal prepared.changes
restore_of_journal is = record {
  sized = sym is.sized;
  saved = is.saved;
  raised = is.consistent.raised;
  fixed = is.fixed;
  small = is.consistent.six_bits;
  lifted = λ lifts. inl refl;
  code = inr is.code;
}

pub counted : {changes : _} {wanted : ℕ → ℕ} {verify : Bool} (old : BusState) {mid new : BusState} {work : Work}
    → mid.sent ≡ old.sent → DoesChange changes wanted verify mid new work
    → SendsCounted work.erases work.programs old new
counted old unsent does =
    record { erased = rw (← unsent) does.exactly.erased; programmed = rw (← unsent) does.exactly.programmed }
