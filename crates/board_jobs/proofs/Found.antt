use Rattle.std.proofs.Common.{◌≡◌, ℕ, Bool, List, Option, Result, Ok, Err, IfErr, IfOk, false, inl, inr, refl, true}
use Rattle.std.specs.Borrow.{Bor}
use Rattle.std.specs.Prelude.{⊤}
use Rattle.nor_model.specs.Bus.{BusState}
use Rattle.nor_probe.specs.declared.table.ChipName.{ChipName}
use Rattle.nor_request.specs.declared.refusal.Refusal.{Refusal}
use Rattle.nor_files.specs.Files.{FilesState, View}
use Rattle.nor_layout.specs.declared.ranges.Span.{Span}
use Rattle.nor_args.specs.Text.{Text}
use Rattle.nor_args.specs.declared.job.Change.{Change}
use Rattle.nor_args.specs.declared.job.JournalUse.{JournalUse}
use Rattle.nor_args.specs.declared.job.JournalUse.TheVariants as uses
use Rattle.nor_args.specs.declared.job.Operation.{Operation}
use Rattle.nor_args.specs.declared.job.Task.{Task}
use Rattle.nor_args.specs.declared.job.Task.TheVariants as task
use Rattle.nor_args.specs.declared.job.Wanted.{Wanted}
use Rattle.nor_args.specs.declared.job.Wanted.TheVariants as wanted
use Rattle.nor_console.specs.Messages.{IsReportedAs}
use Rattle.nor_console.specs.Files.{IsMaking}
use Rattle.nor_console.specs.declared.answers.Answer.{Answer}
use Rattle.nor_console.specs.declared.messages.Fault.{Fault}
use Rattle.nor_console.specs.declared.messages.Fault.TheVariants as end
use Rattle.board_jobs.specs.Jobs.{DoesTask, FailsChange, FailsComparison, FailsPerform, FailsToChange}
use Rattle.board_jobs.specs.Following.{FailsToFollow}
use Rattle.board_jobs.specs.Jobs.{FailsToFill, FailsToTarget, HasChangedAndCompared, HasChangedBy}
use Rattle.board_jobs.specs.Jobs.{HasNotCompared, HasRunChange, HasTarget, IsBufferOf, IsProtected}
use Rattle.board_jobs.specs.Jobs.{IsRefusedAsProtected, ranges_of}
use Rattle.board_files.specs.Tasks.{changes_bytes, is_compared}
use Rattle.board_jobs.specs.Restoring.{FailsRestore}
use Rattle.board_jobs.specs.declared.chip_faults.JobFault.{JobFault}
use Rattle.board_jobs.specs.declared.chip_faults.JobFault.TheVariants as ended

module _ {T : Type 0} (P : T → Type 0) (Q : Refusal → Type 0) where
  pub passes_ok : (outcome : Result T Refusal) (result : Result T Fault) → IsReportedAs outcome result
      → IfOk outcome P → IfOk result P
  passes_ok (Ok found) result returned is = rw returned is
  passes_ok (Err refusal) result returned is = rw returned tt

  pub passes_err : (outcome : Result T Refusal) (result : Result T Fault) → IsReportedAs outcome result
      → IfErr outcome Q → IfErr result (λ fault. (refusal : Refusal) × Q refusal × (fault ≡ end.Refused refusal))
  passes_err (Ok found) result returned is = rw returned tt
  passes_err (Err refusal) result returned is = rw returned (refusal, is, refl)

abbrev IsBefore : JobFault → Type 0
IsBefore (ended.Fault fault) = ⊤
IsBefore (ended.Protected byte id) = ⊤
IsBefore _ = ⊥

module _ (named : Option ChipName) (old new : BusState) where
  refused : (target : Wanted) (ranges : Option (List Span)) (bytes : List ℕ) (byte : ℕ) (id : List ℕ)
      → FailsToTarget named target ranges bytes old new (ended.Protected byte id) → IsProtected named old new byte id
  refused target ranges bytes byte id (inl is) = is
  refused target ranges bytes byte id (inr made) = absurd (cc made.2)

  refuses : (target : Wanted) (ranges : Option (List Span)) (bytes : List ℕ) (file : Bor Text) (view : View)
      (after : FilesState) (byte : ℕ) (id : List ℕ) → after.view ≡ view
      → FailsToFill named target ranges bytes old new (ended.Protected byte id)
      → IsRefusedAsProtected named target (uses.Journal file) view after old new byte id
  refuses (wanted.Range start len) ranges bytes file view after byte id same fails = absurd fails
  refuses target ranges bytes file view after byte id same fails = record {
    changes = refl;
    journalled = refl;
    protected = refused target ranges bytes byte id fails;
    unmade = same;
  }

  targets_before : (target : Wanted) (ranges : Option (List Span)) (bytes : List ℕ) (fault : JobFault)
      → FailsToTarget named target ranges bytes old new fault → IsBefore fault
  targets_before target ranges bytes (ended.Fault fault) fails = tt
  targets_before target ranges bytes (ended.Protected byte id) fails = tt
  targets_before target ranges bytes _ (inl fails) = fails
  targets_before target ranges bytes _ (inr made) = absurd (cc made.2)

  fills_before : (target : Wanted) (ranges : Option (List Span)) (bytes : List ℕ) (fault : JobFault)
      → FailsToFill named target ranges bytes old new fault → IsBefore fault
  fills_before (wanted.Range start len) ranges bytes fault fails = absurd fails
  fills_before target ranges bytes fault fails = targets_before target ranges bytes fault fails

module _ (named : Option ChipName) (ranges : Option (List Span)) (bytes : List ℕ) (old new : BusState) where
  pub target_filled : (target : Wanted) (image : List ℕ) → changes_bytes target ≡ true
      → HasTarget named target ranges bytes old new image → IsBufferOf named target ranges bytes old new image
  target_filled (wanted.Range start len) image is has = absurd (cc is)
  target_filled _ image is has = has

  pub target_fails : (target : Wanted) (fault : JobFault) → changes_bytes target ≡ true
      → FailsToTarget named target ranges bytes old new fault → FailsToFill named target ranges bytes old new fault
  target_fails (wanted.Range start len) fault is fails = absurd (cc is)
  target_fails _ fault is fails = fails

  pub protection_filled : (target : Wanted) → new ≡ old → changes_bytes target ≡ false
      → IsBufferOf named target ranges bytes old new bytes
  protection_filled (wanted.Range start len) same is = (same, refl)
  protection_filled _ same is = absurd (cc is)

module _ (operation : Operation) (old new : BusState) (change : Change) (ranges : Option (List Span))
    (bytes : List ℕ) (file : Bor Text) (view : View) (after : FilesState) where
  pub fill_fails : (kept : JournalUse) (fault : JobFault) → kept ≡ uses.Journal file → after.view ≡ view
      → FailsToFill operation.named change.wanted (ranges_of operation change ranges) bytes old new fault
      → FailsChange operation change ranges bytes kept view after old new fault
  fill_fails kept (ended.Fault fault) is same fails = rw is (inl fails)
  fill_fails kept (ended.Protected byte id) is same fails =
      rw is (refuses operation.named old new change.wanted _ bytes file view after byte id same fails)
  fill_fails kept _ is same fails = absurd (fills_before operation.named old new change.wanted _ bytes _ fails)

module _ (operation : Operation) (old new : BusState) (change : Change) (ranges : Option (List Span))
    (bytes : List ℕ) (file : Bor Text) (view : View) where
  pub start_fails : (image : List ℕ) (fault : Fault)
      → IsBufferOf operation.named change.wanted (ranges_of operation change ranges) bytes old new image
      → IsMaking view file.now fault
      → FailsToChange operation change ranges bytes (uses.Journal file) view old new fault
  start_fails image fault buffer making = inr (image, buffer, making)

abbrev IsAfter : JobFault → Type 0
IsAfter (ended.NotCompared refusal) = ⊤
IsAfter _ = ⊥

follows_after : (named : Option ChipName) (target : List ℕ) (old new : BusState) (found : Answer) (compared : Bool)
    (fault : JobFault) → FailsToFollow (Ok found) compared named target old new fault → IsAfter fault
follows_after named target old new found true (ended.NotCompared refusal) fails = tt
follows_after named target old new found true _ fails = fails
follows_after named target old new found false fault fails = absurd fails

module _ (operation : Operation) (change : Change) (ranges : Option (List Span)) (bytes : List ℕ)
    (kept : JournalUse) (file : Bor Text) (is : kept ≡ uses.Journal file) (view : View) (after : FilesState)
    (old changed new : BusState) where
  pub changed_by : (outcome : Result Answer Refusal)
      → HasChangedAndCompared operation change ranges bytes file.now view after old new outcome
      → HasChangedBy operation change ranges bytes kept view after old new outcome
  changed_by outcome does = rw is does

  not_compared : (refusal : Refusal) → HasNotCompared operation change ranges bytes file.now view after old new refusal
      → FailsComparison operation change ranges bytes kept view after old new refusal
  not_compared refusal fails = rw is fails

  pub follow_fails : (session : Result Answer Refusal) (fault : JobFault)
      → (ran : HasRunChange operation change ranges bytes file.now view after old changed session)
      → FailsToFollow session (is_compared operation change) operation.named ran.image changed new fault
      → FailsChange operation change ranges bytes kept view after old new fault
  follow_fails (Ok found) (ended.NotCompared refusal) ran fails =
      not_compared refusal (record { changed = changed; reported = found; session = ran; fails = fails })
  follow_fails (Ok found) _ ran fails = absurd
      (follows_after operation.named ran.image changed new found (is_compared operation change) _ fails)
  follow_fails (Err refusal) fault ran fails = absurd fails

module _ (operation : Operation) (change : Change) (ranges : Option (List Span)) (bytes : List ℕ) (view : View)
    (after : FilesState) (old new : BusState) (job : Task) (is : job ≡ task.Change change)
    (result : Result (Result Answer Refusal) JobFault) where
  pub change_done :
      IfOk result (HasChangedBy operation change ranges bytes change.journal_use view after old new)
      → IfOk result (DoesTask operation job ranges bytes view after old new)
  change_done does = rw is does

  pub change_failed :
      IfErr result (FailsChange operation change ranges bytes change.journal_use view after old new)
      → IfErr result (FailsPerform operation job ranges bytes view after old new)
  change_failed fails = rw is fails

module _ (operation : Operation) (ranges : Option (List Span)) (bytes : List ℕ) (view : View) (after : FilesState)
    (old new : BusState) (job : Task) (journal : Bor Text) (is : job ≡ task.Restore journal)
    (result : Result (Result Answer Refusal) JobFault) where
  pub restore_failed : IfErr result (FailsRestore operation bytes old new)
      → IfErr result (FailsPerform operation job ranges bytes view after old new)
  restore_failed fails = rw is fails
