use Rattle.std.proofs.Common.{◌≡◌, ◌⊎◌, ◌∙◌, ℕ, Bool, List, Option, None, Some, Result, Ok, Err, ap, false, inl, inr, refl, subst, true}
use Rattle.nor_model.specs.Bus.{BusState}
use Rattle.nor_journal.specs.Text.{Content as Journal, IsContent, text}
use Rattle.nor_probe.specs.declared.probes.Found.{Found}
use Rattle.nor_probe.specs.declared.table.ChipName.{ChipName}
use Rattle.nor_request.specs.declared.refusal.Refusal.{Refusal}
use Rattle.nor_request.specs.declared.refusal.Refusal.TheVariants.{Memory, Mismatch, OtherChip, StatusDiffers, Stopped, Timeout}
use Rattle.nor_request.specs.declared.report.Report.{Report}
use Rattle.nor_session.specs.Restore.{AlwaysBy, Choice, IsCheckedFirst}
use Rattle.nor_session.specs.Session.{IsSavedCode, SendsSaved}
use Rattle.nor_args.specs.declared.job.Operation.{Operation}
use Rattle.nor_console.specs.Readings.{AnswersCall}
use Rattle.nor_console.specs.Sessions.{ReportsDone}
use Rattle.nor_console.specs.declared.answers.Answer.{Answer}
use Rattle.board_jobs.specs.BoardBits.{IsFitted, fitted_to}
use Rattle.board_jobs.specs.Fitting.{FailsToFit, HasRestoredAgain, HasRestoredFitting}
use Rattle.nor_jobs.specs.Finding.{IsNamedFirst}
use Rattle.nor_jobs.specs.Restoring.{HasRestoredNamed}
use Rattle.board_jobs.specs.declared.chip_faults.JobFault.{JobFault}
use Rattle.board_jobs.specs.declared.chip_faults.JobFault.TheVariants as ended
use Rattle.board_jobs.specs.UnsavedSectors.{FailsRest, FollowsRestore, is_compared_after}
use Rattle.board_jobs.specs.Restoring.{FailsBy, FailsRestOf, FailsRestore, HasReadBefore, HasRestoredBy}
use Rattle.board_jobs.specs.Sends.{KeepsSent, SendsRestore}

pub reads_on : (old mid new : BusState) → KeepsSent old mid → KeepsSent mid new → KeepsSent old new
reads_on old mid new one other = other ∙ one

pub same_keeps_sent : (old new : BusState) → new ≡ old → KeepsSent old new
same_keeps_sent old new same = ap (λ (bus : BusState). bus.sent) same

pub sends_after : (IsCode : ℕ → Type 0) (journal : Journal) (old mid new : BusState) → KeepsSent old mid
    → SendsSaved IsCode 1 journal mid new → SendsSaved IsCode 1 journal old new
sends_after IsCode journal old mid new same sends = record {
  targeted = λ s. rw same at (sends.targeted s);
  written = λ one two. rw same at (sends.written one two);
  erases = rw same at sends.erases;
  programs = rw same at sends.programs;
  unknown = rw same at sends.unknown;
}

pub sends_before : (IsCode : ℕ → Type 0) (journal : Journal) (old mid new : BusState)
    → SendsSaved IsCode 1 journal old mid → KeepsSent mid new → SendsSaved IsCode 1 journal old new
sends_before IsCode journal old mid new sends same = record {
  targeted = λ s. rw same (sends.targeted s);
  written = λ one two. rw same (sends.written one two);
  erases = rw same sends.erases;
  programs = rw same sends.programs;
  unknown = rw same sends.unknown;
}

before_reads : (named : Option ChipName) (journal : Journal) (rest : List ℕ) (old new : BusState)
    → HasReadBefore named journal rest old new → KeepsSent old new
before_reads named journal rest old new has =
    reads_on old has.found new has.identified.always.only_reads.sent has.read.only_reads.sent

rest_follows : (followed : Bool) (journal : Journal) (rest : List ℕ) (old new : BusState)
    → FollowsRestore followed journal rest old new → KeepsSent old new
rest_follows true journal rest old new kept = kept.read.only_reads.sent
rest_follows false journal rest old new same = same_keeps_sent old new same

named_reads : (named : Option ChipName) (old new : BusState) → IsNamedFirst named old new → KeepsSent old new
named_reads None old new same = same_keeps_sent old new same
named_reads (Some name) old new found = found.1.always.only_reads.sent

named_sends : (quick : Bool) (named : Option ChipName) (journal : Journal) (old new : BusState)
    (outcome : Result Answer Refusal) → HasRestoredNamed quick named journal old new outcome
    → KeepsSent old new ⊎ SendsSaved (IsSavedCode journal) 1 journal old new
named_sends quick named journal old new outcome (inl does) =
    inr (sends_after _ _ old does.found new (named_reads named old does.found does.first) does.ran.always.sends)
named_sends quick None journal old new outcome (inr failed) = absurd failed.1
named_sends quick (Some name) journal old new outcome (inr failed) = inl failed.1.always.only_reads.sent

-- Holds if no modifying command was sent, or if what was sent fits a journal `fitted` (`IsFitted`).
abbrev pub SendsFitting : Journal → (old new : BusState) → Type 0
SendsFitting journal old new = KeepsSent old new
    ⊎ ((fitted : Journal) × IsFitted journal fitted × SendsSaved (IsSavedCode fitted) 1 fitted old new)

fitting_after : (journal : Journal) (old mid new : BusState) → KeepsSent old mid → SendsFitting journal mid new
    → SendsFitting journal old new
fitting_after journal old mid new same (inl kept) = inl (reads_on old mid new same kept)
fitting_after journal old mid new same (inr sends) =
    inr (sends.0, sends.1, sends_after _ sends.0 old mid new same sends.2)

fitting_before : (journal : Journal) (old mid new : BusState) → SendsFitting journal old mid → KeepsSent mid new
    → SendsFitting journal old new
fitting_before journal old mid new (inl kept) same = inl (reads_on old mid new kept same)
fitting_before journal old mid new (inr sends) same =
    inr (sends.0, sends.1, sends_before _ sends.0 old mid new sends.2 same)

fits_as : (journal fitted : Journal) (old new : BusState) → IsFitted journal fitted
    → KeepsSent old new ⊎ SendsSaved (IsSavedCode fitted) 1 fitted old new → SendsFitting journal old new
fits_as journal fitted old new is (inl kept) = inl kept
fits_as journal fitted old new is (inr sends) = inr (fitted, is, sends)

-- If a restore returned error 17, it sent no modifying command, because this error comes from its checks.
refused_reads : (choice : Choice) (journal : Journal) (old new : BusState) (result : Result Report Refusal)
    → AlwaysBy choice journal old new result → AnswersCall ReportsDone result (Err StatusDiffers) → KeepsSent old new
refused_reads choice journal old new (Ok report) always returned = absurd returned
refused_reads choice journal old new (Err refusal) always returned =
    let P : Refusal → Type 0 = λ error. IsCheckedFirst error in
    (always.only_reads (subst P returned refl)).sent

named_refused : (quick : Bool) (named : Option ChipName) (journal : Journal) (old new : BusState)
    → HasRestoredNamed quick named journal old new (Err StatusDiffers) → KeepsSent old new
named_refused quick named journal old new (inl does) = reads_on old does.found new
    (named_reads named old does.found does.first)
    (refused_reads _ journal does.found new does.ran.result does.ran.always does.ran.returned)
named_refused quick None journal old new (inr failed) = absurd failed.1
named_refused quick (Some name) journal old new (inr failed) = failed.1.always.only_reads.sent

unfitted_reads : (old new : BusState) (refusal : Refusal) → FailsToFit old new refusal → KeepsSent old new
unfitted_reads old new StatusDiffers kept = kept
unfitted_reads old new Memory kept = kept
unfitted_reads old new Stopped fails = fails.0
unfitted_reads old new (Timeout address) fails = fails.0
unfitted_reads old new _ fails = absurd fails

again_sends : (quick : Bool) (named : Option ChipName) (journal : Journal) (old new : BusState)
    (outcome : Result Answer Refusal) → HasRestoredAgain quick named journal old new outcome
    → SendsFitting journal old new
again_sends quick named journal old new outcome (inl does) = fitting_after journal old does.read new does.shows.kept
    (fits_as journal (fitted_to does.found journal) does.read new (inr (does.found, refl))
    (named_sends quick named (fitted_to does.found journal) does.read new outcome does.restored))
again_sends quick named journal old new outcome (inr failed) = inl (unfitted_reads old new failed.0 failed.1)

fitting_sends : (quick : Bool) (named : Option ChipName) (journal : Journal) (old new : BusState)
    (outcome : Result Answer Refusal) → HasRestoredFitting quick named journal old new outcome
    → SendsFitting journal old new
fitting_sends quick named journal old new outcome (inl does) =
    fits_as journal journal old new (inl refl) (named_sends quick named journal old new outcome does)
fitting_sends quick named journal old new outcome (inr does) = fitting_after journal old does.refused new
    (named_refused quick named journal old does.refused does.first)
    (again_sends quick named journal does.refused new outcome does.again)

pub restored_sends : (operation : Operation) (journal : Journal) (old new : BusState) (outcome : Result Answer Refusal)
    (compared : Bool) → HasRestoredBy compared operation journal old new outcome → SendsFitting journal old new
restored_sends operation journal old new outcome false does =
    fitting_sends operation.is_quick operation.named journal old new outcome does
restored_sends operation journal old new outcome true does = fitting_before journal old does.restored new
    (fitting_after journal old does.found does.restored
    (before_reads operation.named journal does.rest old does.found does.first)
    (fitting_sends operation.is_quick None journal does.found does.restored outcome does.ran))
    (rest_follows (is_compared_after outcome) journal does.rest does.restored new does.followed)

rest_fails : (journal : Journal) (rest : List ℕ) (old new : BusState) (refusal : Refusal)
    → FailsRest journal rest old new refusal → KeepsSent old new
rest_fails journal rest old new Stopped stopped = stopped.only_reads.sent
rest_fails journal rest old new (Mismatch address) lost = lost.read.only_reads.sent
rest_fails journal rest old new _ fails = absurd fails

unread_rest : (journal : Journal) (chip : Found) (old new : BusState) (refusal : Refusal)
    → FailsRestOf journal chip old new refusal → KeepsSent old new
unread_rest journal chip old new OtherChip other = same_keeps_sent old new other.0
unread_rest journal chip old new Stopped stopped = stopped.only_reads.sent
unread_rest journal chip old new _ fails = absurd fails

restore_fails : (operation : Operation) (journal : Journal) (old new : BusState) (compared : Bool) (fault : JobFault)
    → FailsBy compared operation journal old new fault → SendsFitting journal old new
restore_fails operation journal old new true (ended.Fault fault) (inl short) = inl (same_keeps_sent old new short.0)
restore_fails operation journal old new true (ended.Fault fault) (inr (inl found)) =
    inl found.1.always.only_reads.sent
restore_fails operation journal old new true (ended.Fault fault) (inr (inr has)) =
    inl (reads_on old has.1.found new has.1.identified.always.only_reads.sent
    (unread_rest journal has.1.chip has.1.found new has.0 has.1.fails))
restore_fails operation journal old new true (ended.RestNotCompared outcome refusal) has = fitting_before journal old
    has.restored new (fitting_after journal old has.found has.restored
    (before_reads operation.named journal has.rest old has.found has.first)
    (fitting_sends operation.is_quick None journal has.found has.restored outcome has.ran))
    (rest_fails journal has.rest has.restored new refusal has.fails)
restore_fails operation journal old new true _ fails = absurd fails
restore_fails operation journal old new false fault fails = absurd fails

pub of_journal : (bytes : List ℕ) (journal : Journal) → IsContent journal → bytes ≡ text journal → (old new : BusState)
    → SendsFitting journal old new → KeepsSent old new ⊎ SendsRestore bytes old new
of_journal bytes journal sound read old new (inl kept) = inl kept
of_journal bytes journal sound read old new (inr sends) = inr (record {
  journal = record { content = journal; is = sound; same = read };
  fitted = sends.0;
  fits = sends.1;
  sends = sends.2;
})

pub job_restore_fails : (operation : Operation) (bytes : List ℕ) (old new : BusState) (fault : JobFault)
    → FailsRestore operation bytes old new fault → KeepsSent old new ⊎ SendsRestore bytes old new
job_restore_fails operation bytes old new fault (inr none) = inl (same_keeps_sent old new none.0)
job_restore_fails operation bytes old new fault (inl has) = of_journal bytes has.journal has.sound has.read old new
    (restore_fails operation has.journal old new operation.verifies_all fault has.fails)
