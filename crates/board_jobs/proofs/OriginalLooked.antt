-- Before and after its session a change only reads. A journal that can restore a chip can restore an equal chip.
use Rattle.std.proofs.Common.{◌≡◌, ◌⊎◌, ℕ, Bool, List, None, Some, Option, Result, Ok, Err, false, inl, inr, subst}
use Rattle.std.proofs.Common.{true}
use Rattle.nor_model.specs.Bus.{BusState}
use Rattle.nor_model.specs.Chip.{Chip, IsSame}
use Rattle.nor_files.specs.Files.{View}
use Rattle.nor_journal.specs.Text.{Content as Journal}
use Rattle.nor_layout.specs.declared.ranges.Span.{Span}
use Rattle.nor_probe.specs.declared.probes.Found.{Found}
use Rattle.nor_probe.specs.declared.table.ChipName.{ChipName}
use Rattle.nor_request.specs.declared.refusal.Refusal.{Refusal}
use Rattle.nor_request.specs.declared.refusal.Refusal.TheVariants.{Memory}
use Rattle.nor_session.specs.Backup.{IsBackupOf}
use Rattle.nor_session.specs.Headline.{CanRestore}
use Rattle.nor_args.specs.declared.job.Change.{Change}
use Rattle.nor_args.specs.declared.job.JournalUse.{JournalUse}
use Rattle.nor_args.specs.declared.job.JournalUse.TheVariants as uses
use Rattle.nor_args.specs.declared.job.Operation.{Operation}
use Rattle.nor_args.specs.declared.job.Wanted.{Wanted}
use Rattle.nor_args.specs.declared.job.Wanted.TheVariants as wanted
use Rattle.nor_console.specs.declared.answers.Answer.{Answer}
use Rattle.nor_console.specs.declared.messages.Fault.{Fault}
use Rattle.nor_jobs.specs.Sources.{asked_bytes}
use Rattle.board_jobs.specs.Following.{FailsToFollow, FailsToMerge, IsFollowed, IsWholeTarget}
use Rattle.board_jobs.specs.Jobs.{FailsToChange, FailsToFill, FailsToTarget, HasTarget, IsBufferOf}
use Rattle.board_jobs.specs.Looked.{HasOnlyLooked}
use Rattle.board_jobs.specs.declared.chip_faults.JobFault.TheVariants as ended
use Rattle.board_jobs.proofs.Original.{looked_by, looked_none, looked_then}

-- If `first` has the configuration, bytes and non-volatile status bits of `other`, a journal that can restore `first`
-- can restore `other`.
module _ (first other : Chip) (same : IsSame other first) where
  abbrev parts : Chip
  parts = record other { config = first.config; bytes = first.bytes; kept = first.kept }

  one : parts ≡ other
  one = λ i. record other { config = same.config i; bytes = λ a. same.bytes a i; kept = same.kept i }

  pub can_restore_same : (journal : Journal) (state : BusState) → CanRestore journal first state
      → CanRestore journal other state
  can_restore_same journal state can =
      let there : CanRestore journal parts state = record {
        known = can.known;
        saves = record {
          kind = can.saves.kind;
          unit = can.saves.unit;
          bits = can.saves.bits;
          sectors = can.saves.sectors;
        };
        within = record {
          config = can.within.config;
          bytes = can.within.bytes;
          fixed = can.within.fixed;
          kept = can.within.kept;
          runs = λ unsteady busy. let works = can.within.runs unsteady busy in
              record { known = works.known; inside = works.inside; status = works.status };
        };
      } in
      subst (λ (chip : Chip). CanRestore journal chip state) one there

  pub backup_same : (bytes : List ℕ) → IsBackupOf bytes first → IsBackupOf bytes other
  backup_same bytes backup =
      let there : IsBackupOf bytes parts = record {
        journal = backup.journal;
        saves = record {
          chip = record {
            kind = backup.saves.chip.kind;
            unit = backup.saves.chip.unit;
            bits = backup.saves.chip.bits;
            sectors = backup.saves.chip.sectors;
          };
          device = backup.saves.device;
          every = backup.saves.every;
        };
      } in
      subst (λ (chip : Chip). IsBackupOf bytes chip) one there

target_looked : (named : Option ChipName) (ranges : Option (List Span)) (image : List ℕ) (old new : BusState)
    (target : List ℕ) → IsWholeTarget named ranges image old new target → HasOnlyLooked old new
target_looked named None image old new target is = looked_none old new is.0
target_looked named (Some spans) image old new target is = looked_by is.read.always.only_reads

made_looked : (named : Option ChipName) (target : Wanted) (ranges : Option (List Span)) (bytes : List ℕ)
    (old new : BusState) (image : List ℕ) → HasTarget named target ranges bytes old new image → HasOnlyLooked old new
made_looked named target ranges bytes old new image is =
    looked_then (looked_by is.changeable.identified.always.only_reads)
    (target_looked named ranges _ is.found new image is.is)

pub buffer_looked : (named : Option ChipName) (target : Wanted) (ranges : Option (List Span)) (bytes : List ℕ)
    (old new : BusState) (image : List ℕ) → IsBufferOf named target ranges bytes old new image → HasOnlyLooked old new
buffer_looked named (wanted.Range start len) ranges bytes old new image is = looked_none old new is.0
buffer_looked named target ranges bytes old new image is = made_looked named target ranges bytes old new image is

pub follow_looked : (session : Result Answer Refusal) (compared : Bool) (named : Option ChipName) (target : List ℕ)
    (old new : BusState) → IsFollowed session compared named target old new → HasOnlyLooked old new
follow_looked (Ok found) true named target old new is = looked_by is.1.always.only_reads
follow_looked (Ok found) false named target old new is = looked_none old new is
follow_looked (Err refusal) compared named target old new is = looked_none old new is

pub follow_fails_looked : (found : Answer) (compared : Bool) (named : Option ChipName) (target : List ℕ)
    (old new : BusState) (refusal : Refusal)
    → FailsToFollow (Ok found) compared named target old new (ended.NotCompared refusal) → HasOnlyLooked old new
follow_fails_looked found true named target old new refusal is = looked_by is.always.only_reads
follow_fails_looked found false named target old new refusal is = absurd is

merge_fails_looked : (named : Option ChipName) (size : ℕ) (ranges : Option (List Span)) (image : List ℕ)
    (old new : BusState) (refusal : Refusal) → FailsToMerge named size ranges image old new refusal
    → HasOnlyLooked old new
merge_fails_looked named size None image old new refusal fails = absurd fails
merge_fails_looked named size (Some spans) image old new refusal (inl unfit) = looked_none old new unfit.0
merge_fails_looked named size (Some spans) image old new refusal (inr (inl read)) =
    looked_by read.2.always.only_reads
merge_fails_looked named size (Some spans) image old new refusal (inr (inr other)) =
    looked_by other.read.always.only_reads

no_target_looked : (named : Option ChipName) (target : Wanted) (ranges : Option (List Span)) (bytes : List ℕ)
    (found new : BusState) (chip : Found) (refusal : Refusal)
    → ((new ≡ found) × (refusal ≡ Memory))
    ⊎ FailsToMerge named chip.size ranges (asked_bytes target chip.size bytes) found new refusal
    → HasOnlyLooked found new
no_target_looked named target ranges bytes found new chip refusal (inl short) = looked_none found new short.0
no_target_looked named target ranges bytes found new chip refusal (inr fails) =
    merge_fails_looked named chip.size ranges _ found new refusal fails

target_fails_looked : (named : Option ChipName) (target : Wanted) (ranges : Option (List Span)) (bytes : List ℕ)
    (old new : BusState) (fault : Fault) → FailsToTarget named target ranges bytes old new (ended.Fault fault)
    → HasOnlyLooked old new
target_fails_looked named target ranges bytes old new fault (inl found) = looked_by found.1.always.only_reads
target_fails_looked named target ranges bytes old new fault (inr made) =
    looked_then (looked_by made.1.changeable.identified.always.only_reads)
    (no_target_looked named target ranges bytes made.1.found new made.1.chip made.0 made.1.fails)

fill_fails_looked : (named : Option ChipName) (target : Wanted) (ranges : Option (List Span)) (bytes : List ℕ)
    (old new : BusState) (fault : Fault) → FailsToFill named target ranges bytes old new (ended.Fault fault)
    → HasOnlyLooked old new
fill_fails_looked named (wanted.Range start len) ranges bytes old new fault fails = absurd fails
fill_fails_looked named target ranges bytes old new fault fails =
    target_fails_looked named target ranges bytes old new fault fails

pub change_fails_looked : (operation : Operation) (change : Change) (ranges : Option (List Span)) (bytes : List ℕ)
    (kept : JournalUse) (view : View) (old new : BusState) (fault : Fault)
    → FailsToChange operation change ranges bytes kept view old new fault → HasOnlyLooked old new
change_fails_looked operation change ranges bytes (uses.Rehearse stops) view old new fault fails =
    looked_none old new fails.0
change_fails_looked operation change ranges bytes (uses.Journal file) view old new fault (inl fails) =
    fill_fails_looked operation.named change.wanted _ bytes old new fault fails
change_fails_looked operation change ranges bytes (uses.Journal file) view old new fault (inr begun) =
    buffer_looked operation.named change.wanted _ bytes old new begun.0 begun.1
