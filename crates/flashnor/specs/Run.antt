-- The results of a run: its call to the engine, its faults, the files that it leaves, and its exit status.
use Rattle.std.specs.Prelude.{◌≡◌, ◌≤◌, ◌⊎◌, ℕ, Bool, true, false, List, Option, None, Some, Result, Ok, Err, ⊤}
use Rattle.std.specs.Prelude.{IsSomeAnd, OnSome}
use Rattle.std.specs.Borrow.{Bor}
use Rattle.nor_model.specs.Bus.{BusState}
use Rattle.nor_model.specs.Chip.{Chip, IsSame}
use Rattle.nor_session.specs.Headline.{CanRestore}
use Rattle.nor_chip.specs.Sim.{sim_state}
use Rattle.nor_chip.specs.declared.sim.SimBus.{SimBus}
use Rattle.nor_journal.specs.Text.{Content as Journal, IsContent, text}
use Rattle.nor_layout.specs.declared.ranges.Span.{Span}
use Rattle.nor_probe.specs.declared.table.ChipName.{ChipName}
use Rattle.nor_request.specs.declared.refusal.Refusal.{Refusal}
use Rattle.nor_request.specs.declared.refusal.Refusal.TheVariants.{Memory}
use Rattle.nor_args.specs.Text.{Text}
use Rattle.clap.specs.Words.{IsAmong}
use Rattle.clap.specs.declared.error.kind.ErrorKind.TheVariants as kind
use Rattle.nor_args.specs.Words.{AreWrong, IsJob, IsRefusedArguments, refusals_of}
use Rattle.nor_args.specs.declared.job.Change.{Change}
use Rattle.nor_args.specs.declared.job.ChipJob.{ChipJob}
use Rattle.nor_args.specs.declared.job.Job.{Job}
use Rattle.nor_args.specs.declared.job.Job.TheVariants as job
use Rattle.nor_args.specs.declared.job.JournalUse.{JournalUse}
use Rattle.nor_args.specs.declared.job.Regions.{Regions}
use Rattle.nor_args.specs.declared.job.JournalUse.TheVariants as uses
use Rattle.nor_args.specs.declared.job.Task.{Task}
use Rattle.nor_args.specs.declared.job.Task.TheVariants as task
use Rattle.nor_args.specs.declared.job.Wanted.{Wanted}
use Rattle.nor_args.specs.declared.job.Wanted.TheVariants as wanted
use Rattle.nor_args.specs.declared.programmer.Emulated.{Emulated}
use Rattle.nor_args.specs.declared.programmer.Programmer.{Programmer}
use Rattle.nor_console.specs.AnswerLines.{AreLines}
use Rattle.flashnor.specs.Changes.{HasMadeChange, HasRestoredEmulated, ReportsChange, ReportsRestore}
use Rattle.flashnor.specs.Chips.{AreWrittenBack, FailsToHold, FailsToOpen, IsContentOf, StartsBus}
use Rattle.flashnor.specs.Endings.{HasPrinted, all_written}
use Rattle.flashnor.specs.Found.{emulated_part}
use Rattle.nor_console.specs.Printing.{Prints}
use Rattle.nor_console.specs.Stored.{IsNot, IsRead, IsReportedOf, StaysOf}
use Rattle.flashnor.specs.Left.{KeepsOriginalFiles, KeepsRestorable, IsRestorableFrom, Opened}
use Rattle.flashnor.specs.Roles.{FailsFileRoles, FilesHaveOneRole}
use Rattle.flashnor.specs.Streams.{IsReportedTo}
use Rattle.flashnor.specs.Tasks.{journal_by, writes_back}
use Rattle.nor_console.specs.Tasks.{made_by}
use Rattle.nor_files.specs.Files.{AllStay, AreAtRest, FilesState, IsKnownFile, IsDurable, Name, KeepsFile, Nature, View}
use Rattle.nor_console.specs.Files.{IsMaking, IsReadingFault, IsSharingFault}
use Rattle.flashnor.specs.Readings.{IdentifiesEmulated, ReportsEmulated, ReportsEmulatedSize}
use Rattle.nor_console.specs.Readings.{HasReadOut, HasReported, HasVerified, ListsRanges, ReportsProtection}
use Rattle.nor_console.specs.Requests.{AreRangesOf, FailsToInclude, request_for}
use Rattle.nor_jobs.specs.Sources.{IsAskedOf, IsInvalid}
use Rattle.nor_console.specs.declared.answers.Answer.{Answer}
use Rattle.nor_console.specs.declared.answers.Answer.TheVariants as answer
use Rattle.flashnor.specs.declared.chips.Content.{Content}
use Rattle.flashnor.specs.declared.details.Detail.{Detail}
use Rattle.flashnor.specs.declared.holding.Unwritten.{Unwritten}
use Rattle.nor_console.specs.declared.messages.Fault.{Fault}
use Rattle.nor_console.specs.declared.messages.Fault.TheVariants as end
use Rattle.nor_console.specs.declared.messages.Wording.{Wording}
use Rattle.flashnor.specs.declared.printing.Ending.{Ending}
use Rattle.flashnor.specs.declared.streams.Reports.{Reports}
use Rattle.flashnor.specs.declared.streams.Reports.TheVariants as at

-- Holds if a session or rehearsal of `change`, at the addresses of its regions, may have this outcome.
pub record ChangesChip (view : View) (after : FilesState) (chip : Emulated) (named : Option ChipName)
    (change : Change) (old new : BusState) (outcome : Result Answer Refusal) : Type 0 where
  pub ranges : Option (List Span)
  pub included : AreRangesOf view None change.regions ranges
  pub image : List ℕ
  pub buffer : IsAskedOf view change.wanted (emulated_part chip).size image
  pub changed : HasMadeChange (request_for change named ranges) image change.journal_use old new view after outcome

pub record DoesRead (view after : View) (named : Option ChipName) (file : Text) (regions : Option Regions)
    (old new : BusState) (outcome : Result Answer Refusal) : Type 0 where
  pub ranges : Option (List Span)
  pub included : AreRangesOf view None regions ranges
  pub read : HasReadOut named file ranges old new after outcome

pub record DoesVerify (view : View) (named : Option ChipName) (file : Text) (regions : Option Regions)
    (old new : BusState) (outcome : Result Answer Refusal) : Type 0 where
  pub ranges : Option (List Span)
  pub included : AreRangesOf view None regions ranges
  pub image : List ℕ
  pub read : IsRead view file 16777217 image
  pub verified : HasVerified named ranges image old new outcome

pub record DoesRestore (view : View) (named : Option ChipName) (file : Text) (old new : BusState)
    (outcome : Result Answer Refusal) : Type 0 where
  pub journal : Journal
  pub sound : IsContent journal
  pub read : IsRead view file 16793662 (text journal)
  pub restored : HasRestoredEmulated journal named old new outcome

abbrev pub DoesJob : View → FilesState → Programmer → Option ChipName → Task → (old new : BusState)
    → Result Answer Refusal → Type 0
DoesJob view after programmer named task.Probe old new outcome =
    IdentifiesEmulated (ReportsEmulated programmer named) programmer named old new outcome
DoesJob view after programmer named task.FlashSize old new outcome =
    IdentifiesEmulated (ReportsEmulatedSize programmer named) programmer named old new outcome
DoesJob view after programmer named task.WpStatus old new outcome =
    HasReported ReportsProtection named old new outcome
DoesJob view after programmer named task.WpList old new outcome = HasReported ListsRanges named old new outcome
DoesJob view after programmer named (task.Read file regions) old new outcome =
    DoesRead view after.view named file.now regions old new outcome
DoesJob view after programmer named (task.Verify file regions) old new outcome =
    DoesVerify view named file.now regions old new outcome
DoesJob view after programmer named (task.Change change) old new outcome =
    ChangesChip view after programmer.chip named change old new outcome
DoesJob view after programmer named (task.Restore journal) old new outcome =
    DoesRestore view named journal.now old new outcome

-- With a write-back (`true`): holds if `unwritten` names as image and status only the chip's own files, and writing a
-- named file may fail. Without a write-back: holds if `unwritten` names neither an image nor a status file.
abbrev pub AreReported : Bool → Programmer → Unwritten → View → Type 0
AreReported true programmer unwritten view =
    IsReportedOf programmer.image unwritten.image view × IsReportedOf programmer.status unwritten.status view
AreReported false programmer unwritten view = (unwritten.image ≡ None) × (unwritten.status ≡ None)

-- Holds if `amid`, the view after the trace was created, has the nature and the known files of `old`, except the trace.
pub record IsViewBut (trace : Option (Bor Text)) (old amid : View) : Type 0 where
  pub nature : amid.nature ≡ old.nature
  pub stays : (name : Name) → IsNot old.nature trace name → IsKnownFile name old
      → (amid.out name ≡ old.out name) × (amid.seen name ≡ old.seen name)

abbrev pub DoesTraced : (files after : FilesState) → ChipJob → (old new : BusState) → Result Answer Refusal → Type 0
DoesTraced files after job old new outcome = (amid : View) × IsViewBut job.programmer.trace files.view amid
    × DoesJob amid after job.programmer job.named job.task old new outcome

abbrev pub DoesStarted : (files after : FilesState) → ChipJob → Content → (new : BusState) → Result Answer Refusal
    → Type 0
DoesStarted files after job content new outcome = (bus : SimBus) × StartsBus job.programmer content bus
    × DoesTraced files after job (sim_state bus) new outcome

-- Holds if a call to the engine, on the chip in the programmer's files, had this outcome. The fields `traced` and
-- `kept` say that only the run's own trace and journal may be named as lost.
pub record IsCalled (files after : FilesState) (job : ChipJob) (unwritten : Unwritten)
    (outcome : Result Answer Refusal) : Type 0 where
  pub roles : FilesHaveOneRole files.view.nature job
  pub nature : after.view.nature ≡ files.view.nature
  pub content : Content
  pub read : IsContentOf files.view job.programmer content
  pub bus : SimBus
  pub started : StartsBus job.programmer content bus
  pub new : BusState
  pub does : DoesTraced files after job (sim_state bus) new outcome
  pub reported : AreReported (writes_back job.task) job.programmer unwritten files.view
  pub left : AreAtRest files → writes_back job.task ≡ true
      → AreWrittenBack job.programmer new.chip unwritten.image unwritten.status after
  pub traced : OnSome unwritten.trace (unwritten.trace ≡ job.programmer.trace)
  pub kept : IsReportedOf (journal_by job.task) unwritten.journal files.view

abbrev pub FailsToReadImage : View → Wanted → Fault → Type 0
FailsToReadImage view (wanted.Write image) fault = IsReadingFault view image.now 16777217 fault
FailsToReadImage view wanted.Erase fault = fault ≡ end.Refused Memory
FailsToReadImage view (wanted.Range start len) fault = ⊥

abbrev pub FailsToKeep : View → JournalUse → Fault → Type 0
FailsToKeep view (uses.Journal file) fault = IsMaking view file.now fault
FailsToKeep view (uses.Rehearse stops) fault = ⊥

abbrev pub FailsToRestore : View → Text → Fault → Type 0
FailsToRestore view name fault = IsSharingFault view name 16793662 fault ⊎ IsInvalid view name fault

abbrev pub FailsTask : View → Task → Fault → Type 0
FailsTask view (task.Read file regions) fault =
    FailsToInclude view None regions fault ⊎ IsMaking view file.now fault
FailsTask view (task.Verify file regions) fault =
    FailsToInclude view None regions fault ⊎ IsReadingFault view file.now 16777217 fault
FailsTask view (task.Change change) fault =
    FailsToInclude view None change.regions fault
    ⊎ (FailsToReadImage view change.wanted fault ⊎ FailsToKeep view change.journal_use fault)
FailsTask view (task.Restore journal) fault = FailsToRestore view journal.now fault
FailsTask view _ fault = ⊥

abbrev pub FailsToStart : Bool → View → Programmer → Fault → Type 0
FailsToStart true view programmer fault = FailsToHold view programmer fault
FailsToStart false view programmer fault = FailsToOpen view programmer fault

abbrev pub FailsTraced : View → ChipJob → Fault → Type 0
FailsTraced view on_chip fault = IsSomeAnd on_chip.programmer.trace (λ name. IsMaking view name.now fault)
    ⊎ (FailsFileRoles view.nature on_chip fault
    ⊎ ((amid : View) × IsViewBut on_chip.programmer.trace view amid × FailsTask amid on_chip.task fault))

abbrev pub FailsJob : View → ChipJob → Fault → Type 0
FailsJob view on_chip fault = FailsFileRoles view.nature on_chip fault
    ⊎ (FailsToStart (writes_back on_chip.task) view on_chip.programmer fault
    ⊎ FailsTraced view on_chip fault)

-- Holds if all files are as they were, except the trace and the file that the task creates or truncates (`made`).
pub record StayBut (programmer : Programmer) (made : Option (Bor Text)) (old new : FilesState) : Type 0 where
  pub image : StaysOf programmer.image old new
  pub status : StaysOf programmer.status old new
  pub others : (name : Name) → IsNot old.view.nature programmer.trace name → IsNot old.view.nature made name
      → KeepsFile name old new

abbrev pub KeepsChange : Programmer → JournalUse → (old new : FilesState) → Type 0
KeepsChange programmer (uses.Journal file) old new = KeepsOriginalFiles programmer file.now old new
KeepsChange programmer (uses.Rehearse stops) old new = StayBut programmer None old new

-- Holds if the files `new` are as the task promises at every exit of a run that starts with the files `old` at rest.
abbrev pub KeepsFiles : Programmer → Task → (old new : FilesState) → Type 0
KeepsFiles programmer (task.Change change) old new = KeepsChange programmer change.journal_use old new
KeepsFiles programmer (task.Restore journal) old new = KeepsRestorable programmer journal.now old new
KeepsFiles programmer done old new = StayBut programmer (made_by done) old new

-- Holds if the chip's files durably hold the target chip of a change that returned this answer, and the journal's file
-- durably holds one journal, which can restore the original chip.
pub record HoldsTarget (programmer : Programmer) (named : Option ChipName) (change : Change) (file : Text)
    (found : Answer) (old new : FilesState) : Type 0 where
  pub first : Opened programmer old
  pub last : BusState
  pub ranges : Option (List Span)
  pub included : AreRangesOf old.view None change.regions ranges
  pub image : List ℕ
  pub buffer : IsAskedOf old.view change.wanted (emulated_part programmer.chip).size image
  pub target : ReportsChange (request_for change named ranges) image first.bus last found
  pub held : AreWrittenBack programmer last.chip None None new
  pub restorable : IsRestorableFrom file first new
  pub durable : IsDurable file (Some (text restorable.journal)) new

-- Holds if the chip's files durably hold the result of a restore with this answer, and the journal's file is unchanged.
pub record HoldsRestored (programmer : Programmer) (file : Text) (found : Answer) (old new : FilesState) : Type 0 where
  pub opened : Opened programmer old
  pub last : BusState
  pub journal : Journal
  pub sound : IsContent journal
  pub read : IsRead old.view file 16793662 (text journal)
  -- the bus after the identification that checks the name or, if no name is given, the bus before the restore
  pub probed : BusState
  pub same : IsSame opened.bus.chip probed.chip
  pub target : ReportsRestore journal probed last found
  pub back : (first : Chip) → CanRestore journal first opened.bus → IsSame first last.chip
  pub held : AreWrittenBack programmer last.chip None None new
  pub stays : KeepsFile file old new

abbrev pub HoldsChange : Programmer → Option ChipName → Change → JournalUse → Answer → (old new : FilesState) → Type 0
HoldsChange programmer named change (uses.Journal file) found old new =
    HoldsTarget programmer named change file.now found old new
HoldsChange programmer named change (uses.Rehearse stops) found old new = ⊤

-- Holds if the files hold the result of a change or restore. Always holds for a rehearsal and for any other task.
abbrev pub HoldsTask : Programmer → Option ChipName → Task → Answer → (old new : FilesState) → Type 0
HoldsTask programmer named (task.Change change) found old new =
    HoldsChange programmer named change change.journal_use found old new
HoldsTask programmer named (task.Restore journal) found old new =
    HoldsRestored programmer journal.now found old new
HoldsTask programmer named done found old new = ⊤

-- Holds if the files hold the result of the task, if there was a fault, or if a file was lost or could not be written.
abbrev pub HoldsResult : ChipJob → Unwritten → Result Answer Fault → (old new : FilesState) → Type 0
HoldsResult job unwritten (Ok found) old new = unwritten ≡ all_written
    → HoldsTask job.programmer job.named job.task found old new
HoldsResult job unwritten (Err fault) old new = ⊤

abbrev pub EndsChipJob : (files after : FilesState) → ChipJob → Unwritten → Result Answer Fault → Type 0
EndsChipJob files after on_chip unwritten (Ok found) = IsCalled files after on_chip unwritten (Ok found)
EndsChipJob files after on_chip unwritten (Err (end.Refused refusal)) =
    IsCalled files after on_chip unwritten (Err refusal) ⊎ FailsJob files.view on_chip (end.Refused refusal)
EndsChipJob files after on_chip unwritten (Err fault) = FailsJob files.view on_chip fault

-- Holds if this job may have this result. After a chip job, `KeepsFiles` and `HoldsResult` assume files at rest.
abbrev pub AnswersJob : (files after : FilesState) → Job → Unwritten → Result Answer Fault → Type 0
AnswersJob files after job.List unwritten (Ok answer.Chips) = (unwritten ≡ all_written) × AllStay files after
AnswersJob files after job.List unwritten _ = ⊥
AnswersJob files after (job.Chip on_chip) unwritten outcome = EndsChipJob files after on_chip unwritten outcome
    × (AreAtRest files → KeepsFiles on_chip.programmer on_chip.task files after)
    × (AreAtRest files → HoldsResult on_chip unwritten outcome files after)

-- Holds if these arguments may lead to this result: a usage fault or help, or the result of their job.
abbrev pub AnswersArguments : (files after : FilesState) → List Text → Result Answer Fault → Unwritten → Type 0
AnswersArguments files after words (Err (end.Usage fault reason)) unwritten =
    AreWrong words (record { fault = fault; reason = reason }) × (unwritten ≡ all_written) × AllStay files after
AnswersArguments files after words outcome unwritten =
    (asked : Job) × IsJob words asked × AnswersJob files after asked unwritten outcome

-- Holds if the arguments ask for help, or if each file was written and the answer's lines were appended to `out`.
abbrev pub RunSucceeds : (files after : FilesState) → List Text → (out out' : Option (List ℕ)) → Type 0
RunSucceeds files after words out out' = IsAmong kind.DisplayHelp (refusals_of words)
    ⊎ ((found : Answer) × AnswersArguments files after words (Ok found) all_written × Prints (AreLines found) out out')

abbrev pub IsPrintedAt : Nature → Result Answer Fault → Reports → Type 0
IsPrintedAt nature (Ok found) to = to ≡ at.Errors
IsPrintedAt nature (Err fault) to = IsReportedTo nature fault to

-- Holds if a run with these arguments may have this `ending`. Status 0 requires that the run succeeds (`RunSucceeds`).
pub record IsStatus (files after : FilesState) (words : List Text) (wording : Wording)
    (out out' err err' : Option (List ℕ)) (ending : Ending) : Type 0 where
  pub few : ending.status ≤ 1
  pub refused : IsRefusedArguments words → ending.status ≡ 1
  pub succeeds : ending.status ≡ 0 → RunSucceeds files after words out out'
  pub outcome : Result Answer Fault
  pub unwritten : Unwritten
  pub answers : AnswersArguments files after words outcome unwritten
  pub to : Reports
  pub is_printed_at : IsPrintedAt files.view.nature outcome to
  pub detail : Detail
  pub prints : HasPrinted wording detail outcome unwritten to out out' err err' ending
