-- The sectors that the journal of a restore doesn't save, and the reads of them before and after the restore.
use Rattle.std.specs.Prelude.{◌≡◌, ◌<◌, ◌/◌, ◌*◌, ◌++◌, ℕ, Bool, true, false, List, Some, Result, Ok, Err, length}
use Rattle.std.specs.Prelude.{slice_index}
use Rattle.std.specs.List.{All}
use Rattle.nor_model.specs.Bus.{BusState}
use Rattle.nor_model.specs.Exchange.{Exchange}
use Rattle.nor_model.specs.History.{last_reply, names}
use Rattle.nor_driver.specs.OnlyReads.{HasStopped, OnlyReads}
use Rattle.nor_journal.specs.Saved.{IsWholeSector, is_saved}
use Rattle.nor_journal.specs.Text.{Content as Journal}
use Rattle.nor_plan.specs.Bytes.{AllAgree, IsFirstDifference}
use Rattle.nor_request.specs.declared.refusal.Refusal.{Refusal}
use Rattle.nor_request.specs.declared.refusal.Refusal.TheVariants.{Mismatch, Stopped}
use Rattle.nor_console.specs.declared.answers.Answer.{Answer}
use Rattle.board_jobs.specs.declared.chip_faults.JobFault.{JobFault}
use Rattle.board_jobs.specs.declared.chip_faults.JobFault.TheVariants as ended

-- Holds for a read (03h) of a sector that the journal doesn't save, if the chip replied to it.
pub record IsRestRead (journal : Journal) (exchange : Exchange) : Type 0 where
  pub sector : ℕ
  pub bytes : List ℕ
  pub unsaved : is_saved journal sector ≡ false
  pub reads : names 0x03 (4096 * sector) exchange.out ≡ true
  pub replied : exchange.reply ≡ Some bytes

-- Holds if `bytes` has one byte for each address below the journal's size, with FFh in each saved sector.
pub record AreUnsaved (journal : Journal) (bytes : List ℕ) : Type 0 where
  pub long : length bytes ≡ journal.size
  pub saved : (a : ℕ) → a < journal.size → is_saved journal (a / 4096) ≡ true → slice_index bytes a ≡ 255

-- Holds if each sector that the journal doesn't save was read after `old`, but nothing else was sent. `bytes` has the
-- last reply for each of these sectors, and FFh in all others.
pub record HasReadRest (journal : Journal) (bytes : List ℕ) (old new : BusState) : Type 0 where
  pub only_reads : OnlyReads (journal.size / 4096) old new
  pub later : List Exchange
  pub is : new.history ≡ later ++ old.history
  pub only : All (IsRestRead journal) later
  pub replied : (s : ℕ) → s < journal.size / 4096 → is_saved journal s ≡ false
      → IsWholeSector (slice_index bytes) s (last_reply (names 0x03 (4096 * s)) later)
  pub unsaved : AreUnsaved journal bytes

-- Holds if the bus stopped while the sectors that the journal doesn't save were read. No modifying command was sent.
pub record HasStoppedInRest (journal : Journal) (old new : BusState) : Type 0 where
  pub only_reads : OnlyReads (journal.size / 4096) old new
  pub stopped : HasStopped (journal.size / 4096) old new

-- True if a comparison follows a restore with this outcome: success or error 14.
abbrev pub is_compared_after : Result Answer Refusal → Bool
is_compared_after (Ok answer) = true
is_compared_after (Err (Mismatch address)) = true
is_compared_after (Err refusal) = false

-- Holds if the sectors that the journal doesn't save were read again, with the same bytes as before (`rest`).
pub record HasKeptRest (journal : Journal) (rest : List ℕ) (old new : BusState) : Type 0 where
  pub again : List ℕ
  pub read : HasReadRest journal again old new
  pub equal : AllAgree rest again

abbrev pub FollowsRestore : (followed : Bool) → Journal → (rest : List ℕ) → (old new : BusState) → Type 0
FollowsRestore true journal rest old new = HasKeptRest journal rest old new
FollowsRestore false journal rest old new = new ≡ old

-- Holds if the sectors that the journal doesn't save were read again, and `address` is the first address at which their
-- bytes differ from `rest`.
pub record HasLostRest (journal : Journal) (rest : List ℕ) (old new : BusState) (address : ℕ) : Type 0 where
  pub again : List ℕ
  pub read : HasReadRest journal again old new
  pub first : IsFirstDifference rest again address
  pub unsaved : is_saved journal (address / 4096) ≡ false

-- Holds if the comparison after a restore failed with this error: 12 (the bus stopped) or 14 (a byte differs).
abbrev pub FailsRest : Journal → (rest : List ℕ) → (old new : BusState) → Refusal → Type 0
FailsRest journal rest old new Stopped = HasStoppedInRest journal old new
FailsRest journal rest old new (Mismatch address) = HasLostRest journal rest old new address
FailsRest journal rest old new _ = ⊥

pub record FailsAfterRestore (outcome : Result Answer Refusal) (journal : Journal) (rest : List ℕ) (old new : BusState)
    (restored : Result Answer Refusal) (refusal : Refusal) : Type 0 where
  pub same : restored ≡ outcome
  pub followed : is_compared_after outcome ≡ true
  pub fails : FailsRest journal rest old new refusal

abbrev pub FailsToFollowRestore : Result Answer Refusal → Journal → (rest : List ℕ) → (old new : BusState) → JobFault
    → Type 0
FailsToFollowRestore outcome journal rest old new (ended.RestNotCompared restored refusal) =
    FailsAfterRestore outcome journal rest old new restored refusal
FailsToFollowRestore outcome journal rest old new _ = ⊥
