-- Lemmas on runs that follow one another: after a job that failed a run only reads, so a journal can still restore the
-- original chip.
use Rattle.std.proofs.Common.{◌≡◌, ◌∙◌, ◌⊎◌, ◌∷◌, [], ℕ, List, None, Option, Result, Ok, Err, false, inl, inr}
use Rattle.std.proofs.Common.{ap, refl, subst, sym, true}
use Rattle.std.specs.Prelude.{Bool, OnOk}
use Rattle.std.specs.Borrow.{Bor}
use Rattle.nor_model.specs.Bus.{BusState, KeepsNature}
use Rattle.nor_model.specs.Chip.{Chip, IsSame}
use Rattle.nor_model.proofs.Nature.{nature_then}
use Rattle.nor_files.specs.Files.{FilesState, View, is_lawful}
use Rattle.nor_journal.specs.Text.{Content, IsContent, text}
use Rattle.nor_layout.specs.declared.ranges.Span.{Span}
use Rattle.nor_probe.specs.Known.{IsModelled}
use Rattle.nor_serprog.specs.Device.{PortState}
use Rattle.nor_session.specs.Headline.{CanRestore}
use Rattle.nor_args.specs.Text.{Text}
use Rattle.nor_args.specs.declared.job.Change.{Change}
use Rattle.nor_args.specs.declared.job.JournalUse.TheVariants as uses
use Rattle.nor_args.specs.declared.job.Operation.{Operation}
use Rattle.nor_args.specs.declared.job.Regions.{Regions}
use Rattle.nor_args.specs.declared.job.Task.TheVariants as task
use Rattle.nor_console.specs.declared.answers.Answer.{Answer}
use Rattle.board_files.specs.declared.region_files.RegionFile.{RegionFile}
use Rattle.board_jobs.specs.Jobs.{EndsJob}
use Rattle.board_jobs.specs.Looked.{HasOnlyLooked, IsSteadyOrIdle}
use Rattle.board_jobs.specs.Original.{CanRestoreFromFile, EndsChangedAsAsked, IsBackedUpIn, IsChangedAsAsked}
use Rattle.board_jobs.specs.Original.{IsUntouched}
use Rattle.board_jobs.specs.declared.chip_faults.JobFault.{JobFault}
use Rattle.board_jobs.proofs.Original.{can_restore_after, looked_none, looked_then, same_after}
use Rattle.board_jobs.proofs.OriginalBackedUp.{backed_up}
use Rattle.board_jobs.proofs.OriginalChanged.{changes_restorably}
use Rattle.board_jobs.proofs.OriginalJobs.{restores_first}
use Rattle.serprog_board.specs.Looking.{IsRestorableChip}
use Rattle.serprog_runs.specs.Connected.{IsAhead}
use Rattle.serprog_board.specs.Reached.{FitsPort, IsModelledBoard, ReachesChip}
use Rattle.serprog_runs.specs.Run.{HasPrintedAnswer, HasRun, HasRunBy, LooksAfter}
use Rattle.serprog_runs.specs.Undone.{AreRestoresAfter, BecameOver, ChangeRunKeepsOriginal, FindsChipOf}
use Rattle.serprog_runs.specs.Undone.{HasBackedUpIn, IsOnBoard, IsUndoneFrom, JobRun, MayBecome, ReachesFrom}
use Rattle.serprog_runs.specs.Undone.{RestoreRunKeepsOriginal}
use Rattle.serprog_runs.specs.Undone.{RestoresAfter}
use Rattle.serprog_board.proofs.StillRestorable.{lost_restorable}

pub job_of : (operation : Operation) (files : List RegionFile) (ranges : Option (List Span)) (bytes : List ℕ)
    (before : View) (after : FilesState) (old new : BusState) (out out' : Option (List ℕ)) (status : ℕ)
    (srp0 : Option Bool) → HasRunBy srp0 operation files ranges bytes before after old new out out' status → srp0 ≡ None
    → HasRun operation files ranges bytes before after old new out out' status
job_of operation files ranges bytes before after old new out out' status srp0 ran none =
    subst (λ (given : Option Bool). HasRunBy given operation files ranges bytes before after old new out out' status)
    none ran

looked_after : (outcome : Result Answer JobFault) (ended last : BusState) → LooksAfter outcome ended last
    → HasOnlyLooked ended last
looked_after (Ok answer) ended last same = looked_none ended last same
looked_after (Err fault) ended last looked = looked

-- After an answer that was printed, the bus is as the job left it.
module _ (operation : Operation) (out out' : Option (List ℕ)) (ended last : BusState) where
  same_when : (first : Chip) (outcome : Result Answer JobFault) → LooksAfter outcome ended last
      → HasPrintedAnswer operation outcome out out' → OnOk outcome (IsSame first ended.chip) → IsSame first last.chip
  same_when first (Ok answer) same printed back = rw same back
  same_when first (Err fault) looked printed back = absurd printed

  changed_when : (change : Change) (ranges : Option (List Span)) (bytes : List ℕ) (first : Chip)
      (outcome : Result Answer JobFault) → LooksAfter outcome ended last → HasPrintedAnswer operation outcome out out'
      → EndsChangedAsAsked operation change ranges bytes first ended.chip outcome
      → IsChangedAsAsked operation change ranges bytes first last.chip
  changed_when change ranges bytes first (Ok answer) same printed asked = rw same asked
  changed_when change ranges bytes first (Err fault) looked printed asked = absurd printed

  backed_up_when : (ranges : Option (List Span)) (bytes : List ℕ) (before : View) (after : FilesState)
      (old : BusState) (file : Bor Text) (regions : Option Regions) → IsModelled old → is_lawful after.view ≡ true
      → operation.task ≡ task.Read file regions → operation.is_backup ≡ true
      → (outcome : Result Answer JobFault) → LooksAfter outcome ended last
      → HasPrintedAnswer operation outcome out out' → EndsJob operation ranges bytes before after old ended outcome
      → IsBackedUpIn file.now old.chip last after
  backed_up_when ranges bytes before after old file regions modelled lawful is backup (Ok answer) same printed ends =
      rw same (backed_up operation ranges bytes before after old ended answer file modelled lawful regions is backup
      ends)
  backed_up_when ranges bytes before after old file regions modelled lawful is backup (Err fault) looked printed ends =
      absurd printed

restorable_later : (file : Text) (after : FilesState) (old ended last : BusState) → IsModelled old
    → IsSteadyOrIdle old → KeepsNature old ended → HasOnlyLooked ended last
    → IsUntouched old ended ⊎ CanRestoreFromFile file old.chip ended after
    → IsUntouched old last ⊎ CanRestoreFromFile file old.chip last after
restorable_later file after old ended last modelled settled nature later (inl untouched) =
    let looked = looked_then untouched.looked later in
    inl (record {
      looked = looked;
      same = same_after looked modelled.honest settled;
      unsent = looked.only_reads.sent;
    })
restorable_later file after old ended last modelled settled nature later (inr can) = inr (record {
  bytes = can.bytes;
  durable = can.durable;
  back = record {
    journal = can.back.journal;
    back = can_restore_after later can.back.journal.content old.chip (nature.honest ∙ modelled.honest) can.back.back;
  };
})

module _ {R : Type 0} {files_of : R → FilesState} (run : JobRun files_of) where
  later : HasOnlyLooked run.ran.ended run.last
  later = looked_after run.ran.outcome run.ran.ended run.last run.ran.looked

  nature_to : KeepsNature run.start run.ran.ended → KeepsNature run.start run.last
  nature_to nature = nature_then run.start run.ran.ended run.last later.only_reads.nature nature

  pub restore_kept : (file : Bor Text) (journal : Content) (first : Chip) → run.operation.task ≡ task.Restore file
      → IsContent journal → run.bytes ≡ text journal → IsModelled run.start → CanRestore journal first run.start
      → RestoreRunKeepsOriginal journal first run
  restore_kept file journal first is sound read modelled can =
      let kept = restores_first run.operation journal first run.start run.ran.ended modelled can run.bytes sound read
      run.ranges run.made (files_of run.after) file is run.ran.outcome run.ran.ends in
      record {
        nature = nature_to kept.nature;
        still = can_restore_after later journal first (kept.nature.honest ∙ modelled.honest) kept.still;
        back = λ zero. same_when run.operation run.out run.out' run.ran.ended run.last first run.ran.outcome
            run.ran.looked (run.ran.printed zero) kept.back;
        fails = kept.fails;
      }

  pub change_kept : (change : Change) (file : Bor Text) → run.operation.task ≡ task.Change change
      → change.journal_use ≡ uses.Journal file → IsModelled run.start → IsSteadyOrIdle run.start
      → is_lawful (files_of run.after).view ≡ true → ChangeRunKeepsOriginal change file.now run
  change_kept change file is journalled modelled settled lawful =
      let kept = changes_restorably run.operation change run.ranges run.bytes file run.made (files_of run.after)
      run.start run.ran.ended modelled settled lawful is journalled run.ran.outcome run.ran.ends in
      record {
        nature = nature_to kept.nature;
        restorable = restorable_later file.now (files_of run.after) run.start run.ran.ended run.last modelled settled
            kept.nature later kept.restorable;
        asked = λ zero. changed_when run.operation run.out run.out' run.ran.ended run.last change run.ranges run.bytes
            run.start.chip run.ran.outcome run.ran.looked (run.ran.printed zero) kept.asked;
      }

  pub backup_kept : (file : Bor Text) (regions : Option Regions) → run.operation.task ≡ task.Read file regions
      → run.operation.is_backup ≡ true → IsModelled run.start → is_lawful (files_of run.after).view ≡ true
      → run.status ≡ 0 → HasBackedUpIn file.now run
  backup_kept file regions is backup modelled lawful zero = backed_up_when run.operation run.out run.out' run.ran.ended
      run.last run.ranges run.bytes run.made (files_of run.after) run.start file regions modelled lawful is backup
      run.ran.outcome run.ran.looked (run.ran.printed zero) run.ran.ends

-- If the bus isn't steady, the journal can also restore `first` over every other bus with this chip and these types.
over_every_bus : (journal : Content) (first : Chip) (state : BusState) → state.steady ≡ false → state.further ≡ true
    → CanRestore journal first state → IsRestorableChip true journal first state.chip
over_every_bus journal first state unsteady further can = λ other same kept.
    let there : CanRestore journal first (record other { chip = state.chip }) = record {
      known = rw (kept ∙ sym further) can.known;
      saves = can.saves;
      within = record {
        config = can.within.config;
        bytes = can.within.bytes;
        fixed = can.within.fixed;
        kept = can.within.kept;
        runs = λ any busy. can.within.runs unsteady busy;
      };
    } in
    subst (λ (chip : Chip). CanRestore journal first (record other { chip = chip })) (sym same) there

-- WEL doesn't matter for a restore.
left_restorable : (journal : Content) (first : Chip) (last : BusState) (left : Chip)
    → record left { latch = last.chip.latch } ≡ last.chip → IsRestorableChip true journal first last.chip
    → IsRestorableChip true journal first left
left_restorable journal first last left shown can = λ other same kept.
    let before : BusState = record other { chip = record left { latch = last.chip.latch } } in
    let was : CanRestore journal first before = can before shown kept in
    let there : CanRestore journal first (record other { chip = left }) = record {
      known = was.known;
      saves = was.saves;
      within = record {
        config = was.within.config;
        bytes = was.within.bytes;
        fixed = was.within.fixed;
        kept = was.within.kept;
        runs = was.within.runs;
      };
    } in
    subst (λ (chip : Chip). CanRestore journal first (record other { chip = chip })) (sym same) there

become_restorable : (journal : Content) (first old new : Chip) → MayBecome old new
    → IsRestorableChip true journal first old → IsRestorableChip true journal first new
become_restorable journal first old new (inl (inl same)) can =
    subst (λ (chip : Chip). IsRestorableChip true journal first chip) (sym same) can
become_restorable journal first old new (inl (inr lost)) can = lost_restorable true journal first old new lost can
become_restorable journal first old new (inr looked) can =
    subst (λ (chip : Chip). IsRestorableChip true journal first chip) looked.is
    (looked.looks.restorable true journal first
    (subst (λ (chip : Chip). IsRestorableChip true journal first chip) (sym looked.was) can))

found_restorable : (journal : Content) (first : Chip) (between : List Chip) (left found : Chip)
    → BecameOver between left found → IsRestorableChip true journal first left
    → IsRestorableChip true journal first found
found_restorable journal first [] left found kept can = become_restorable journal first left found kept can
found_restorable journal first (next ∷ later) left found kept can =
    found_restorable journal first later next found kept.1 (become_restorable journal first left next kept.0 can)

-- What a bus reached, a bus that reads ahead over it reached, too.
reached_ahead : (port : PortState) (inside start : BusState) → ReachesChip port inside → IsAhead inside start
    → ReachesChip port start
reached_ahead port inside start reaches ahead = record {
  honest = λ fits. ahead.honest (reaches.honest fits);
  further = ahead.further ∙ reaches.further;
  unsteady = ahead.steady ∙ reaches.unsteady;
  config = ap (λ (chip : Chip). chip.config) ahead.chip ∙ reaches.config;
  same = λ idle. subst (λ (chip : Chip). IsSame port.device.chip chip) (sym ahead.chip) (reaches.same idle);
  idle = λ idle. ap (λ (chip : Chip). chip.busy) ahead.chip ∙ reaches.idle idle;
  restorable = λ journal first can.
      subst (λ (chip : Chip). IsRestorableChip true journal first chip) (sym ahead.chip)
      (reaches.restorable journal first can);
}

on_board : (port : PortState) (start : BusState) → ReachesChip port start → FitsPort port → IsOnBoard start
on_board port start reaches fits =
    record { honest = reaches.honest fits; unsteady = reaches.unsteady; further = reaches.further }

pub reaches_from : (port : PortState) (last inside start : BusState) → ReachesChip port inside → IsAhead inside start
    → FitsPort port → FindsChipOf last port.device.chip → ReachesFrom last start
reaches_from port last inside start reaches ahead fits finds =
    let there = reached_ahead port inside start reaches ahead in
    record {
      on_board = on_board port start there fits;
      restorable = λ journal first can. there.restorable journal first
          (found_restorable journal first finds.between finds.left port.device.chip finds.kept
          (left_restorable journal first last finds.left finds.shown can)) start refl there.further;
    }

modelled_by : (journal : Content) (first : Chip) (state : BusState) → state.honest ≡ true
    → CanRestore journal first state → IsModelled state
modelled_by journal first state honest can =
    record { honest = honest; genuine = rw can.within.config can.known.genuine }

module _ {R : Type 0} {files_of : R → FilesState} (bytes : List ℕ) (journal : Content) (first : Chip)
    (sound : IsContent journal) (read : bytes ≡ text journal) where
  restored_after : (last : BusState) (run : JobRun files_of) → IsRestorableChip true journal first last.chip
      → RestoresAfter bytes last run → RestoreRunKeepsOriginal journal first run
  restored_after last run can restores =
      let there = restores.reaches.restorable journal first can in
      restore_kept run restores.file journal first restores.restores sound (restores.read ∙ read)
      (modelled_by journal first run.start restores.reaches.on_board.honest there) there

  restored_later : (restores : List (JobRun files_of)) (end : JobRun files_of) (last : BusState)
      → IsRestorableChip true journal first last.chip → AreRestoresAfter bytes last restores end
      → RestoreRunKeepsOriginal journal first end
  restored_later [] end last can restores = restored_after last end can restores
  restored_later (run ∷ later) end last can restores =
      let kept = restored_after last run can restores.0 in
      let board = restores.0.reaches.on_board in
      restored_later later end run.last (over_every_bus journal first run.last (kept.nature.steady ∙ board.unsteady)
      (kept.nature.further ∙ board.further) kept.still) restores.1

undone_by : {R : Type 0} (files_of : R → FilesState) (file : Text) (first : Chip) (last : BusState)
    (after : FilesState) → last.steady ≡ false → last.further ≡ true → CanRestoreFromFile file first last after
    → IsUndoneFrom files_of file first last after
undone_by {R} files_of file first last after unsteady further can =
    let journal = can.back.journal.content in
    let later : (restores : List (JobRun files_of)) (end : JobRun files_of)
    → AreRestoresAfter can.bytes last restores end → RestoreRunKeepsOriginal journal first end =
    λ restores end. restored_later can.bytes journal first can.back.journal.is can.back.journal.same restores end last
    (over_every_bus journal first last unsteady further can.back.back) in
    record {
      journal = journal;
      bytes = can.bytes;
      contains = can.back.journal.same;
      durable = can.durable;
      fails = λ restores end are. (later restores end are).fails;
      back = λ restores end are. (later restores end are).back;
    }

pub run_undone : {R : Type 0} {files_of : R → FilesState} (run : JobRun files_of) (change : Change) (file : Bor Text)
    → run.operation.task ≡ task.Change change → change.journal_use ≡ uses.Journal file → IsModelled run.start
    → IsOnBoard run.start → run.start.chip.busy ≡ 0 → is_lawful (files_of run.after).view ≡ true
    → IsUntouched run.start run.last ⊎ IsUndoneFrom files_of file.now run.start.chip run.last (files_of run.after)
run_undone {files_of = files_of} run change file is journalled modelled board idle lawful =
    let kept = change_kept run change file is journalled modelled (inr idle) lawful in
    elim kept.restorable [
      | inl untouched ↦ inl untouched
      | inr can ↦ inr (undone_by files_of file.now run.start.chip run.last (files_of run.after)
          (kept.nature.steady ∙ board.unsteady) (kept.nature.further ∙ board.further) can)
    ]

pub board_undone : {R : Type 0} {files_of : R → FilesState} (port : PortState) (inside : BusState)
    (run : JobRun files_of) (change : Change) (file : Bor Text) → ReachesChip port inside → IsAhead inside run.start
    → IsModelledBoard port → run.operation.task ≡ task.Change change → change.journal_use ≡ uses.Journal file
    → is_lawful (files_of run.after).view ≡ true
    → IsSame port.device.chip run.start.chip
    × (IsUntouched run.start run.last
    ⊎ IsUndoneFrom files_of file.now run.start.chip run.last (files_of run.after))
board_undone port inside run change file reaches ahead board is journalled lawful =
    let there = reached_ahead port inside run.start reaches ahead in
    let modelled : IsModelled run.start = record {
      honest = there.honest board.fits;
      genuine = rw (there.further, there.config) board.genuine;
    } in (
      there.same board.idle,
      run_undone run change file is journalled modelled (on_board port run.start there board.fits)
          (there.idle board.idle) lawful,
    )
