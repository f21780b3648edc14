-- Lemmas: the promises of sessions and reads imply those of a job (`HasMadeChange`, `ChangesChip`, `DoesRead`).
use Rattle.std.proofs.Common.{◌≡◌, ◌≤◌, ℕ, List, Option, None, Result, Ok, Err, IfOk, IsOk, MatchResult, OnErr, arith}
use Rattle.std.proofs.Common.{false, true}
use Rattle.std.specs.Borrow.{Bor}
use Rattle.nor_model.specs.Bus.{BusState}
use Rattle.nor_model.specs.Chip.{IsChip, IsSame}
use Rattle.nor_driver.specs.OnlyReads.{IsSteadyOrIdle, OnlyReads}
use Rattle.nor_journal.specs.Vault.{VaultState}
use Rattle.nor_layout.specs.declared.ranges.Span.{Span}
use Rattle.nor_probe.specs.Known.{IsModelled}
use Rattle.nor_probe.specs.declared.table.ChipName.{ChipName}
use Rattle.nor_request.specs.Refusal.{refusal_number}
use Rattle.nor_request.specs.declared.refusal.Refusal.{Refusal}
use Rattle.nor_request.specs.declared.report.Report.{Report}
use Rattle.nor_request.specs.declared.request.Request.{Request}
use Rattle.nor_session.specs.Bounds.{most_of}
use Rattle.nor_session.specs.Session.{CanBeUndone, HonestErrors, SessionAlways, SessionHonest, SessionModelled}
use Rattle.nor_session.proofs.WrittenBack.{same_over, session_over}
use Rattle.nor_args.specs.Text.{Text}
use Rattle.nor_args.specs.declared.job.Change.{Change}
use Rattle.nor_args.specs.declared.job.JournalUse.TheVariants as uses
use Rattle.nor_args.specs.declared.job.Regions.{Regions}
use Rattle.nor_args.specs.declared.programmer.Emulated.{Emulated}
use Rattle.nor_files.specs.Calls.{BorrowsNone, LeavesOrEmpty}
use Rattle.nor_files.specs.Files.{FilesState, IsKnownFile, View}
use Rattle.flashnor.specs.Changes.{FailsSession, HasKeptChange, HasMadeChange, ReportsChange}
use Rattle.nor_console.specs.Readings.{AnswersCall, HasReadOut}
use Rattle.nor_console.specs.Requests.{AreRangesOf, request_for}
use Rattle.nor_console.specs.Sessions.{HasRunInFile, ReportsDone}
use Rattle.nor_jobs.specs.Sources.{IsImage, asked_bytes}
use Rattle.flashnor.specs.Found.{emulated_part}
use Rattle.flashnor.specs.Run.{ChangesChip, DoesRead}
use Rattle.nor_console.specs.declared.answers.Answer.{Answer}
use Rattle.nor_console.specs.declared.answers.Answer.TheVariants as answer
use Rattle.nor_console.specs.declared.messages.Fault.{Fault}

pub does_change : (view : View) (after : FilesState) (chip : Emulated) (named : Option ChipName) (change : Change) (request : Request)
    (ranges : Option (List Span)) (bytes image : List ℕ) (size : ℕ) (old new : BusState) (outcome : Result Answer Refusal)
    → request ≡ request_for change named ranges → AreRangesOf view None change.regions ranges → IsImage view change.wanted bytes
    → size ≡ (emulated_part chip).size → image ≡ asked_bytes change.wanted size bytes
    → HasMadeChange request image change.journal_use old new view after outcome → ChangesChip view after chip named change old new outcome
does_change view after chip named change request ranges bytes image size old new outcome same included read sized asked changed = record {
  ranges = ranges;
  included = included;
  image = image;
  buffer = (bytes, read, rw sized at asked);
  changed = rw same at changed;
}

pub does_read : (view after : View) (named : Option ChipName) (file : Text) (regions : Option Regions)
    (ranges : Option (List Span)) (old new : BusState) (result : Result (Result Answer Refusal) Fault)
    → AreRangesOf view None regions ranges → IfOk result (HasReadOut named file ranges old new after)
    → IfOk result (DoesRead view after named file regions old new)
does_read view after named file regions ranges old new result included read = grind arith

stays : (old new : BusState) (refusal : Refusal)
    → HonestErrors (most_of 4096) (λ refusal. refusal_number refusal ≤ 11) old new refusal → refusal_number refusal ≤ 11
    → IsSame old.chip new.chip
stays old new refusal errors early = grind arith

module _ (request : Request) (image : List ℕ) (old new : BusState) (vault vault' : VaultState)
    (modelled : IsModelled old) (is : IsChip old.chip) (steady_or_idle : IsSteadyOrIdle old) where
  same : (vault'.sealed ≡ false → OnlyReads 69638 old new) → vault'.sealed ≡ false → IsSame old.chip new.chip
  same only_reads unsealed = (((only_reads unsealed).honest_reads modelled.honest).stays.steady_or_idle steady_or_idle)

  kept : (vault'.sealed ≡ false → OnlyReads 69638 old new)
      → (vault'.sealed ≡ true → CanBeUndone request image old new vault') → (outcome : Result Answer Refusal)
      → MatchResult outcome (ReportsChange request image old new) (FailsSession request image old new vault vault')
      → (IsOk outcome → vault'.sealed ≡ true) → HasKeptChange request image old new vault vault' outcome
  kept only_reads undo outcome returned sealed = record {
    returned = returned;
    sealed = sealed;
    same = same only_reads;
    undo = undo;
    over = λ opened written further. record {
      same = λ unsealed. same_over old.chip new.chip opened.chip (same only_reads unsealed) written;
      back = λ sealed telling journal sound read.
          session_over request image old new opened vault' journal modelled is telling (undo sealed) sound read written further;
    };
  }

  kept_by : (result : Result Report Refusal) (outcome : Result Answer Refusal)
      → SessionAlways request image old new vault vault' result → SessionHonest request image old new result
      → SessionModelled request image old new vault vault' result → AnswersCall ReportsDone result outcome
      → HasKeptChange request image old new vault vault' outcome
  kept_by (Ok report) (Ok (answer.Done returned)) always honest model passed =
      kept always.only_reads model.undo _ (rw passed model.done) (λ ok. always.ends.sealed)
  kept_by (Err refusal) (Err returned) always honest model passed = kept always.only_reads model.undo _ (rw passed (record {
    refuses = model.errors;
    same = stays _ _ _ honest.honest_errors;
    unused = always.answers.unused;
  })) (λ ok. cc)
  kept_by _ _ always honest model passed = absurd passed

pub made_in_file : (request : Request) (image : List ℕ) (file : Bor Text) (before : View) (after : FilesState)
    (old new : BusState) (result : Result (Result Answer Refusal) Fault) → IsModelled old → IsChip old.chip
    → IsSteadyOrIdle old → IfOk result (HasRunInFile request image file.now before after old new)
    → IfOk result (HasMadeChange request image (uses.Journal file) old new before after)
made_in_file request image file before after old new (Ok outcome) modelled is steady_or_idle made = record {
  missing = made.missing;
  vault = made.vault;
  vault' = made.vault';
  fresh = made.fresh;
  kept_in = made.kept_in;
  done = kept_by request image old new made.vault made.vault' modelled is steady_or_idle made.ran.result outcome
      made.ran.always (made.ran.honest modelled.honest) (made.ran.modelled modelled) made.ran.returned;
}
made_in_file request image file before after old new (Err fault) modelled is steady_or_idle made = tt

pub unmade_file : (name : Text) (old new : FilesState) (result : Result (Result Answer Refusal) Fault)
    → OnErr result (BorrowsNone name old new)
    → OnErr result (IsKnownFile name old.view → LeavesOrEmpty name old new)
unmade_file name old new result none = grind arith
