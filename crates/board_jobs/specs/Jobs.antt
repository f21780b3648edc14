-- The effect of a job on the chip, over any bus, and the faults before and after its call to the engine.
use Rattle.std.specs.Prelude.{◌≡◌, ◌&&◌, ◌⊎◌, ℕ, Bool, true, false, List, Option, Result, Ok, Err}
use Rattle.std.specs.Prelude.{◌==◌, ◌||◌, bit_and, if◌then◌else◌, nat_eq, not, slice_index}
use Rattle.nor_model.specs.Bus.{BusState}
use Rattle.nor_files.specs.Files.{FilesState, View}
use Rattle.nor_layout.specs.declared.ranges.Span.{Span}
use Rattle.nor_probe.specs.declared.probes.Found.{Found}
use Rattle.nor_probe.specs.declared.table.ChipName.{ChipName}
use Rattle.nor_request.specs.declared.refusal.Refusal.{Refusal}
use Rattle.nor_request.specs.declared.refusal.Refusal.TheVariants.{Memory}
use Rattle.nor_args.specs.Text.{Text}
use Rattle.nor_args.specs.declared.job.Change.{Change}
use Rattle.nor_args.specs.declared.job.JournalUse.{JournalUse}
use Rattle.nor_args.specs.declared.job.JournalUse.TheVariants as uses
use Rattle.nor_args.specs.declared.job.Operation.{Operation}
use Rattle.nor_args.specs.declared.job.Task.{Task}
use Rattle.nor_args.specs.declared.job.Task.TheVariants as task
use Rattle.nor_args.specs.declared.job.Wanted.{Wanted}
use Rattle.nor_args.specs.declared.job.Wanted.TheVariants as wanted
use Rattle.nor_args.specs.declared.reasons.Reason.TheVariants as because
use Rattle.nor_args.specs.declared.words.UsageFault.TheVariants as usage
use Rattle.nor_console.specs.Files.{IsMaking}
use Rattle.nor_console.specs.Readings.{HasReadOut, HasReported, HasVerified, ListsRanges, ReportsProtection}
use Rattle.nor_console.specs.Requests.{request_for}
use Rattle.nor_console.specs.Sessions.{HasBackedUpInFile, HasRunInFile}
use Rattle.nor_console.specs.declared.answers.Answer.{Answer}
use Rattle.nor_console.specs.declared.messages.Fault.{Fault}
use Rattle.nor_console.specs.declared.messages.Fault.TheVariants as end
use Rattle.board_jobs.specs.Following.{FailsToFollow, FailsToMerge, IsFollowed, IsWholeTarget, ranges_if}
use Rattle.board_files.specs.Tasks.{changes_bytes, is_compared}
use Rattle.nor_jobs.specs.Finding.{FailsToFind, HasIdentified, HasLookedUp, ReportsFound, ReportsSize}
use Rattle.nor_jobs.specs.Sources.{asked_bytes}
use Rattle.board_jobs.specs.Restoring.{FailsRestore, HasRestored}
use Rattle.board_jobs.specs.declared.chip_faults.JobFault.{JobFault}
use Rattle.board_jobs.specs.declared.chip_faults.JobFault.TheVariants as ended

-- Holds if the chip was identified, and creating or truncating this file then failed. Nothing more was sent.
abbrev pub FailsToMake : Option ChipName → Text → View → (old new : BusState) → Fault → Type 0
FailsToMake named file view old new fault =
    (chip : Found) × HasIdentified named old new (Ok chip) × IsMaking view file fault

-- Holds if the chip was identified, and then a read of the chip into the file had this outcome.
pub record HasReadChip (named : Option ChipName) (file : Text) (ranges : Option (List Span)) (after : View)
    (old new : BusState) (outcome : Result Answer Refusal) : Type 0 where
  pub found : BusState
  pub chip : Found
  pub identified : HasIdentified named old found (Ok chip)
  pub read : HasReadOut named file ranges found new after outcome

-- Holds if the chip was identified, and then a backup of the chip to a new file had this outcome.
pub record HasBackedUpChip (named : Option ChipName) (file : Text) (before : View) (after : FilesState)
    (old new : BusState) (outcome : Result Answer Refusal) : Type 0 where
  pub found : BusState
  pub chip : Found
  pub identified : HasIdentified named old found (Ok chip)
  pub saved : HasBackedUpInFile named file before after found new outcome

abbrev pub HasReadBy : (backup : Bool) → Option ChipName → (file : Text) → (ranges : Option (List Span))
    → (before : View) → (after : FilesState) → (old new : BusState) → Result Answer Refusal → Type 0
HasReadBy true named file ranges before after old new outcome = HasBackedUpChip named file before after old new outcome
HasReadBy false named file ranges before after old new outcome =
    HasReadChip named file ranges after.view old new outcome

abbrev pub FailsToRead : Option ChipName → Text → View → (old new : BusState) → Fault → Type 0
FailsToRead named file view old new fault =
    FailsToFind named old new fault ⊎ FailsToMake named file view old new fault

-- The bits of status 1 that may protect sectors on a chip with this ID and unknown block protection. They are bits 2 to
-- 6, except bit 6 of Macronix (C2h) and ISSI (9Dh), and bit 5 of Microchip's SST26 (BFh 26h).
abbrev pub protecting_bits : (id : List ℕ) → ℕ
protecting_bits id =
    if slice_index id 0 == 0xC2 || slice_index id 0 == 0x9D then 0x3C
    else if slice_index id 0 == 0xBF && slice_index id 1 == 0x26 then 0x5C else 0x7C

-- True if the chip's block protection is unknown, and a bit of its status 1 that may protect sectors is set.
abbrev pub may_be_protected : Found → Bool
may_be_protected chip = not chip.scheme && not (nat_eq (bit_and chip.status1 (protecting_bits chip.id)) 0)

pub record IsChangeable (named : Option ChipName) (old new : BusState) (chip : Found) : Type 0 where
  pub identified : HasIdentified named old new (Ok chip)
  pub unprotected : may_be_protected chip ≡ false

-- Holds if the chip that was identified may be protected. `byte` is its status 1, `id` its ID.
pub record IsProtected (named : Option ChipName) (old new : BusState) (byte : ℕ) (id : List ℕ) : Type 0 where
  pub chip : Found
  pub identified : HasIdentified named old new (Ok chip)
  pub protected : may_be_protected chip ≡ true
  pub shown : byte ≡ chip.status1
  pub names : id ≡ chip.id

-- Holds if a write or an erase failed before its target was made: in the identification, or with chip fault 1.
abbrev pub FailsToAdmit : Option ChipName → (old new : BusState) → JobFault → Type 0
FailsToAdmit named old new (ended.Fault fault) = FailsToFind named old new fault
FailsToAdmit named old new (ended.Protected status1 id) = IsProtected named old new status1 id
FailsToAdmit named old new _ = ⊥

-- Holds if the chip was identified without chip fault 1, and then `image`, the target of a write or an erase, was made.
pub record HasTarget (named : Option ChipName) (target : Wanted) (ranges : Option (List Span)) (bytes : List ℕ)
    (old new : BusState) (image : List ℕ) : Type 0 where
  pub chip : Found
  pub found : BusState
  pub changeable : IsChangeable named old found chip
  pub is : IsWholeTarget named ranges (asked_bytes target chip.size bytes) found new image

-- Holds if `image` is the session's buffer: the target of a write or an erase, or `bytes` for a change of protection.
abbrev pub IsBufferOf : Option ChipName → Wanted → (ranges : Option (List Span)) → (bytes : List ℕ)
    → (old new : BusState) → (image : List ℕ) → Type 0
IsBufferOf named (wanted.Range start len) ranges bytes old new image = (new ≡ old) × (image ≡ bytes)
IsBufferOf named target ranges bytes old new image = HasTarget named target ranges bytes old new image

-- Holds if the chip was identified without chip fault 1, and making the target then failed with this error.
pub record HasNoTarget (named : Option ChipName) (target : Wanted) (ranges : Option (List Span)) (bytes : List ℕ)
    (old new : BusState) (refusal : Refusal) : Type 0 where
  pub chip : Found
  pub found : BusState
  pub changeable : IsChangeable named old found chip
  pub fails : ((new ≡ found) × (refusal ≡ Memory))
      ⊎ FailsToMerge named chip.size ranges (asked_bytes target chip.size bytes) found new refusal

abbrev pub FailsToTarget : Option ChipName → Wanted → (ranges : Option (List Span)) → (bytes : List ℕ)
    → (old new : BusState) → JobFault → Type 0
FailsToTarget named target ranges bytes old new fault = FailsToAdmit named old new fault
    ⊎ ((refusal : Refusal) × HasNoTarget named target ranges bytes old new refusal
    × (fault ≡ ended.Fault (end.Refused refusal)))

abbrev pub FailsToFill : Option ChipName → Wanted → (ranges : Option (List Span)) → (bytes : List ℕ)
    → (old new : BusState) → JobFault → Type 0
FailsToFill named (wanted.Range start len) ranges bytes old new fault = ⊥
FailsToFill named target ranges bytes old new fault = FailsToTarget named target ranges bytes old new fault

abbrev pub ranges_of : Operation → Change → Option (List Span) → Option (List Span)
ranges_of operation change ranges = ranges_if (is_compared operation change) ranges

-- Holds if the session's buffer was made, and then the session, with its journal in a new file, had this outcome.
pub record HasRunChange (operation : Operation) (change : Change) (ranges : Option (List Span)) (bytes : List ℕ)
    (file : Text) (before : View) (after : FilesState) (old new : BusState)
    (outcome : Result Answer Refusal) : Type 0 where
  pub found : BusState
  pub image : List ℕ
  pub buffer : IsBufferOf operation.named change.wanted (ranges_of operation change ranges) bytes old found image
  pub ran : HasRunInFile (request_for change operation.named ranges) image file before after found new outcome

-- Holds if the session was run with this outcome, and a comparison after it, if there was one, found no difference.
pub record HasChangedAndCompared (operation : Operation) (change : Change) (ranges : Option (List Span))
    (bytes : List ℕ) (file : Text) (before : View) (after : FilesState) (old new : BusState)
    (outcome : Result Answer Refusal) : Type 0 where
  pub changed : BusState
  pub session : HasRunChange operation change ranges bytes file before after old changed outcome
  pub followed : IsFollowed outcome (is_compared operation change) operation.named session.image changed new

-- Holds if a change with its journal in a file had this outcome. Never holds for a rehearsal.
abbrev pub HasChangedBy : Operation → Change → Option (List Span) → (bytes : List ℕ) → JournalUse
    → (before : View) → (after : FilesState) → (old new : BusState) → Result Answer Refusal → Type 0
HasChangedBy operation change ranges bytes (uses.Journal file) before after old new outcome =
    HasChangedAndCompared operation change ranges bytes file.now before after old new outcome
HasChangedBy operation change ranges bytes (uses.Rehearse stops) before after old new outcome = ⊥

-- Holds if the session succeeded, and the comparison after it then failed with this error.
pub record HasNotCompared (operation : Operation) (change : Change) (ranges : Option (List Span)) (bytes : List ℕ)
    (file : Text) (before : View) (after : FilesState) (old new : BusState) (refusal : Refusal) : Type 0 where
  pub changed : BusState
  pub reported : Answer
  pub session : HasRunChange operation change ranges bytes file before after old changed (Ok reported)
  pub fails : FailsToFollow (Ok reported) (is_compared operation change) operation.named session.image changed new
      (ended.NotCompared refusal)

-- Holds if the session's buffer was made, and then creating the journal failed or memory ran out.
abbrev pub FailsToBeginChange : Operation → Change → Option (List Span) → (bytes : List ℕ) → Text → View
    → (old new : BusState) → Fault → Type 0
FailsToBeginChange operation change ranges bytes file view old new fault = (image : List ℕ)
    × IsBufferOf operation.named change.wanted (ranges_of operation change ranges) bytes old new image
    × IsMaking view file fault

-- Holds if a change failed before its session, but not with chip fault 1. A rehearsal fails with usage fault 6.
abbrev pub FailsToChange : Operation → Change → Option (List Span) → (bytes : List ℕ) → JournalUse → View
    → (old new : BusState) → Fault → Type 0
FailsToChange operation change ranges bytes (uses.Rehearse stops) view old new fault =
    (new ≡ old) × (fault ≡ end.Usage usage.Journal because.Unsaid)
FailsToChange operation change ranges bytes (uses.Journal file) view old new fault =
    FailsToFill operation.named change.wanted (ranges_of operation change ranges) bytes old new (ended.Fault fault)
    ⊎ FailsToBeginChange operation change ranges bytes file.now view old new fault

abbrev pub has_journal_file : JournalUse → Bool
has_journal_file (uses.Journal file) = true
has_journal_file (uses.Rehearse stops) = false

-- Holds if a write or an erase failed with chip fault 1. `byte` is the chip's status 1, `id` its ID. No file changed.
pub record IsRefusedAsProtected (named : Option ChipName) (target : Wanted) (kept : JournalUse) (before : View)
    (after : FilesState) (old new : BusState) (byte : ℕ) (id : List ℕ) : Type 0 where
  pub changes : changes_bytes target ≡ true
  pub journalled : has_journal_file kept ≡ true
  pub protected : IsProtected named old new byte id
  pub unmade : after.view ≡ before

abbrev pub FailsComparison : Operation → Change → Option (List Span) → (bytes : List ℕ) → JournalUse
    → (before : View) → (after : FilesState) → (old new : BusState) → Refusal → Type 0
FailsComparison operation change ranges bytes (uses.Journal file) before after old new refusal =
    HasNotCompared operation change ranges bytes file.now before after old new refusal
FailsComparison operation change ranges bytes (uses.Rehearse stops) before after old new refusal = ⊥

-- Holds if a change failed with this fault: before its session, or in the comparison after the session.
abbrev pub FailsChange : Operation → Change → Option (List Span) → (bytes : List ℕ) → JournalUse
    → (before : View) → (after : FilesState) → (old new : BusState) → JobFault → Type 0
FailsChange operation change ranges bytes kept before after old new (ended.Fault fault) =
    FailsToChange operation change ranges bytes kept before old new fault
FailsChange operation change ranges bytes kept before after old new (ended.Protected status1 id) =
    IsRefusedAsProtected operation.named change.wanted kept before after old new status1 id
FailsChange operation change ranges bytes kept before after old new (ended.NotCompared refusal) =
    FailsComparison operation change ranges bytes kept before after old new refusal
FailsChange operation change ranges bytes kept before after old new _ = ⊥

-- Holds if the task had this outcome. `ranges` are the addresses of its regions, `bytes` is its image or journal.
abbrev pub DoesTask : Operation → Task → (ranges : Option (List Span)) → (bytes : List ℕ) → (before : View)
    → (after : FilesState) → (old new : BusState) → Result Answer Refusal → Type 0
DoesTask operation task.Probe ranges bytes before after old new outcome =
    HasLookedUp ReportsFound operation.named old new outcome
DoesTask operation task.FlashSize ranges bytes before after old new outcome =
    HasLookedUp ReportsSize operation.named old new outcome
DoesTask operation task.WpStatus ranges bytes before after old new outcome =
    HasReported ReportsProtection operation.named old new outcome
DoesTask operation task.WpList ranges bytes before after old new outcome =
    HasReported ListsRanges operation.named old new outcome
DoesTask operation (task.Read file regions) ranges bytes before after old new outcome =
    HasReadBy operation.is_backup operation.named file.now ranges before after old new outcome
DoesTask operation (task.Verify file regions) ranges bytes before after old new outcome =
    HasVerified operation.named ranges bytes old new outcome
DoesTask operation (task.Change change) ranges bytes before after old new outcome =
    HasChangedBy operation change ranges bytes change.journal_use before after old new outcome
DoesTask operation (task.Restore journal) ranges bytes before after old new outcome =
    HasRestored operation bytes old new outcome

abbrev pub FailsBefore : Option ChipName → Task → (bytes : List ℕ) → View → (old new : BusState) → Fault → Type 0
FailsBefore named (task.Read file regions) bytes view old new fault = FailsToRead named file.now view old new fault
FailsBefore named _ bytes view old new fault = ⊥

-- Holds if `perform` failed with this fault: before the job's call to the engine, or in the comparison after the call.
abbrev pub FailsPerform : Operation → Task → (ranges : Option (List Span)) → (bytes : List ℕ) → (before : View)
    → (after : FilesState) → (old new : BusState) → JobFault → Type 0
FailsPerform operation (task.Change change) ranges bytes before after old new fault =
    FailsChange operation change ranges bytes change.journal_use before after old new fault
FailsPerform operation (task.Restore journal) ranges bytes before after old new fault =
    FailsRestore operation bytes old new fault
FailsPerform operation job ranges bytes before after old new (ended.Fault fault) =
    FailsBefore operation.named job bytes before old new fault
FailsPerform operation job ranges bytes before after old new _ = ⊥

-- Holds if a job ended with this result: the result of its call to the engine, or a fault before or after the call.
abbrev pub EndsJob : Operation → (ranges : Option (List Span)) → (bytes : List ℕ) → (before : View)
    → (after : FilesState) → (old new : BusState) → Result Answer JobFault → Type 0
EndsJob operation ranges bytes before after old new (Ok found) =
    DoesTask operation operation.task ranges bytes before after old new (Ok found)
EndsJob operation ranges bytes before after old new (Err (ended.Fault (end.Refused refusal))) =
    DoesTask operation operation.task ranges bytes before after old new (Err refusal)
    ⊎ FailsPerform operation operation.task ranges bytes before after old new (ended.Fault (end.Refused refusal))
EndsJob operation ranges bytes before after old new (Err fault) =
    FailsPerform operation operation.task ranges bytes before after old new fault

abbrev pub IsEndedAs : Result Answer Refusal → Result Answer JobFault → Type 0
IsEndedAs (Ok found) result = result ≡ Ok found
IsEndedAs (Err refusal) result = result ≡ Err (ended.Fault (end.Refused refusal))
