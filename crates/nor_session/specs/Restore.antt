-- The checks of a chip by a restore, and the promises of a restore.
use Rattle.std.specs.Prelude.{◌≡◌, ◌≢◌, ◌<◌, ◌+◌, ◌/◌, ◌==◌, ◌⊎◌, ℕ, Bool, true, false, List, [], ◌∷◌, length, None, Some, Result, IfOk, IfErr, IsSomeAnd, OnOk, Ok, Err, if◌then◌else◌, ⊤}
use Rattle.std.specs.List.{list_any}
use Rattle.nor_model.specs.declared.config.Config.{Config}
use Rattle.nor_model.specs.Chip.{Chip, is_locked, kept_in}
use Rattle.nor_model.specs.Guard.{code_of}
use Rattle.nor_model.specs.Exchange.{Exchange}
use Rattle.nor_model.specs.History.{Continues}
use Rattle.nor_model.specs.Sent.{sent_in}
use Rattle.nor_model.specs.Bus.{BusState}
use Rattle.nor_driver.specs.OnlyReads.{IsSteadyOrIdle, OnlyReads, Spent, RanOut}
use Rattle.nor_driver.specs.Reads.{unique_of}
use Rattle.nor_driver.specs.StatusWrites.{fixed_of}
use Rattle.nor_driver.specs.ReadBack.{bytes_read, HaveBeenRead, EndsReadBack, EndsReadOther}
use Rattle.nor_apply.specs.Within.{addresses_of}
use Rattle.nor_journal.specs.Text.{Content}
use Rattle.nor_journal.specs.Saved.{is_saved, saved_byte}
use Rattle.nor_probe.specs.declared.probes.ProbeFault.TheVariants as Probes
use Rattle.nor_probe.specs.Known.{shown_as}
use Rattle.nor_plan.specs.Content.{is_touched, is_raised}
use Rattle.nor_driver.specs.Limits.{Spends}
use Rattle.nor_request.specs.declared.report.Report.{Report}
use Rattle.nor_request.specs.declared.refusal.Refusal.{Refusal}
use Rattle.nor_request.specs.declared.refusal.Refusal.TheVariants.{NoChip, UnknownChip, StatusLocked, Stopped, Mismatch, OtherChip, OtherUnit, StatusDiffers}
use Rattle.nor_request.specs.Refusal.{refusal_number}
use Rattle.nor_request.specs.Errors.{EndsAtError}
use Rattle.nor_probe.specs.declared.probes.Found.{Found}
use Rattle.nor_scan.specs.declared.identity.Identity.{Identity}
use Rattle.nor_scan.specs.Identity.{status_read}
use Rattle.nor_probe.specs.Found.{IsPart}
use Rattle.nor_scan.specs.Replied.{IsIdentifiedBy}
use Rattle.nor_scan.specs.Saving.{SomeProtected}
use Rattle.nor_session.specs.Bounds.{most_reads, most_of}
use Rattle.nor_session.specs.Made.{IsTargetChip, IsReportedFor}
use Rattle.nor_session.specs.Changing.{HasBytes}
use Rattle.nor_session.specs.Headline.{IsOfType}
use Rattle.nor_session.specs.Session.{NamesSector, IsWithinCounts, CountsChanges, IsSavedCode, SendsSaved, ProgramsOnly, SendsCounted, WritesStatusAtMost, HonestErrors, EndsProtected}

abbrev pub restored : Content → (old : ℕ → ℕ) → (a : ℕ) → ℕ
restored journal old a = if is_saved journal (a / 4096) then saved_byte journal a else old a

-- How a restore chooses its touched and raised sectors, from the journal and the chip's bytes `content` at the start.
-- `reads` is the number of sectors that are read before the first change if `saved` sectors are saved.
pub record Choice : Type 0 where
  pub touched : Content → (content : ℕ → ℕ) → (s : ℕ) → Bool
  pub raised : Content → (content : ℕ → ℕ) → (s : ℕ) → Bool
  pub reads : (saved : ℕ) → ℕ

-- The choice of `restore`, which reads every saved sector, and touches those that differ from their saved bytes.
abbrev pub differing : Choice
differing = record {
  touched = λ journal content. is_touched content (restored journal content);
  raised = λ journal content. is_raised content (restored journal content);
  reads = λ saved. saved;
}

-- The choice of `rewrite`, which touches and raises every saved sector, and reads none before the changes.
abbrev pub every_saved : Choice
every_saved = record {
  touched = λ journal content. is_saved journal;
  raised = λ journal content. is_saved journal;
  reads = λ saved. 0;
}

-- Holds if the journal has a unique ID, and it isn't the chip's. A journal of format 1 has no unique ID.
abbrev pub IsOfOtherDevice : Content → Config → Type 0
IsOfOtherDevice journal config = IsSomeAnd journal.unique (λ unique. unique ≢ unique_of config)

-- Holds if the status bits that a restore can't write are the journal's: the bits that flashnor never changes and, on a
-- chip without block protection, all non-volatile bits.
pub record FitsStatus (journal : Content) (chip : Chip) : Type 0 where
  pub fixed : fixed_of chip.kept ≡ fixed_of (kept_in journal.status)
  pub all : chip.config.scheme ≡ false → chip.kept ≡ kept_in journal.status

abbrev pub NeedsStatusBy : Choice → Content → Chip → Type 0
NeedsStatusBy choice journal chip = (code_of chip.kept ≢ code_of (kept_in journal.status))
    ⊎ SomeProtected (choice.touched journal chip.bytes) chip

abbrev pub NeedsStatusFrom : Content → Chip → Type 0
NeedsStatusFrom journal chip = NeedsStatusBy differing journal chip

-- Holds if the error applies to the journal and the chip, regardless of other errors.
abbrev pub RestoreHolds : (further : Bool) → Choice → Content → Chip → Refusal → Type 0
RestoreHolds further choice journal chip NoChip = shown_as further chip.config ≡ Err Probes.NoChip
RestoreHolds further choice journal chip (UnknownChip fault) =
    shown_as further chip.config ≡ Err (Probes.UnknownChip fault)
RestoreHolds further choice journal chip OtherChip = ¬ IsOfType journal chip.config
RestoreHolds further choice journal chip OtherUnit = IsOfOtherDevice journal chip.config
RestoreHolds further choice journal chip StatusDiffers = ¬ FitsStatus journal chip
RestoreHolds further choice journal chip StatusLocked = (is_locked chip.kept ≡ true) × NeedsStatusBy choice journal chip
RestoreHolds further choice journal chip _ = ⊥

-- The numbers of the errors that a restore checks before it changes anything, in the order of the checks.
abbrev pub checked_in_order : List ℕ
checked_in_order = 1 ∷ 2 ∷ 16 ∷ 20 ∷ 17 ∷ 9 ∷ []

abbrev pub IsCheckedFirst : Refusal → Type 0
IsCheckedFirst refusal = list_any (λ n. refusal_number refusal == n) checked_in_order ≡ true

abbrev pub index_in : List ℕ → ℕ → ℕ
index_in [] n = 0
index_in (first ∷ later) n = if first == n then 0 else 1 + index_in later n

-- Holds if the error applies, and none of the errors that are checked earlier applies.
pub record IsRestoreVerdict (further : Bool) (choice : Choice) (journal : Content) (chip : Chip)
    (refusal : Refusal) : Type 0 where
  pub holds : RestoreHolds further choice journal chip refusal
  pub first : (other : Refusal)
      → index_in checked_in_order (refusal_number other) < index_in checked_in_order (refusal_number refusal)
      → ¬ RestoreHolds further choice journal chip other

abbrev pub IsRestorable : (further : Bool) → Choice → Content → Chip → Type 0
IsRestorable further choice journal chip = (refusal : Refusal) → ¬ RestoreHolds further choice journal chip refusal

pub record IsOfTypeFound (journal : Content) (found : Found) : Type 0 where
  pub id : journal.id ≡ found.id
  pub size : journal.size ≡ found.size

abbrev pub HasFixedRead : Content → Identity → Type 0
HasFixedRead journal identity = fixed_of (kept_in (status_read identity)) ≡ fixed_of (kept_in journal.status)

abbrev pub HasUniqueRead : Content → Identity → Type 0
HasUniqueRead journal identity = (journal.unique ≡ None) ⊎ (journal.unique ≡ Some identity.unique)

-- Holds if the journal fits what the bus replied to the identification, up to some point (`read`) of the restore before
-- any modifying command.
pub record FitsReplies (journal : Content) (old new : BusState) : Type 0 where
  pub read : List Exchange
  pub before : Continues old.history read
  pub unsent : sent_in read ≡ sent_in old.history
  pub after : Continues read new.history
  pub identity : Identity
  pub part : IsPart old.further identity.found
  pub replied : IsIdentifiedBy old.further read identity
  pub kind : IsOfTypeFound journal identity.found
  pub device : HasUniqueRead journal identity
  pub fixed : HasFixedRead journal identity

abbrev pub IsLeft : Choice → Content → (read : ℕ → ℕ) → (a : ℕ) → Type 0
IsLeft choice journal read a =
    (is_saved journal (a / 4096) ≡ true) × (choice.touched journal read (a / 4096) ≡ false)

-- Holds if the result fits what was read back. `scanned` is the state at which the touched sectors were chosen, before
-- any modifying command. After success, the other saved sectors had been read by then, and the last transactions, after
-- all modifying commands, read the touched sectors with their saved bytes. A mismatch names the first address in these
-- sectors at which another byte was read.
abbrev pub RestoreReadsBack : Choice → Content → (old new : BusState) → Result Report Refusal → Type 0
RestoreReadsBack choice journal old new (Ok report) = (scanned : BusState) × OnlyReads (most_reads 4096) old scanned
    × HaveBeenRead (IsLeft choice journal (bytes_read scanned.history)) old.history scanned.history
    × EndsReadBack (addresses_of (choice.touched journal (bytes_read scanned.history))) (saved_byte journal)
    scanned.history new.history
RestoreReadsBack choice journal old new (Err (Mismatch address)) =
    (scanned : BusState) × OnlyReads (most_reads 4096) old scanned
    × EndsReadOther (addresses_of (choice.touched journal (bytes_read scanned.history))) (saved_byte journal) address
    scanned.history new.history
RestoreReadsBack choice journal old new (Err _) = ⊤

abbrev pub IsRestoreRefusal : Refusal → Type 0
IsRestoreRefusal refusal = list_any (λ n. refusal_number refusal == n) (12 ∷ 13 ∷ 14 ∷ checked_in_order) ≡ true

-- Holds if a restore may return this error on a modelled bus: its verdict, or 12 because the bus stopped.
abbrev pub ErrorsBy : Choice → Content → (old new : BusState) → Refusal → Type 0
ErrorsBy choice journal old new Stopped = RanOut (most_of (length journal.saved)) old new
ErrorsBy choice journal old new refusal = IsRestoreVerdict old.further choice journal old.chip refusal

-- Holds at every exit of a restore on a modelled bus, with any journal. If the bus is steady or the chip was idle at
-- the start, the bytes outside the saved sectors, and the status bits that flashnor never changes, are as they were. In
-- any case only raised sectors were erased.
pub record LeavesBy (choice : Choice) (journal : Content) (old new : BusState) : Type 0 where
  pub config : new.chip.config ≡ old.chip.config
  pub bytes : IsSteadyOrIdle old → (a : ℕ) → is_saved journal (a / 4096) ≡ false → new.chip.bytes a ≡ old.chip.bytes a
  pub fixed : IsSteadyOrIdle old → fixed_of new.chip.kept ≡ fixed_of old.chip.kept
  pub worn : (s : ℕ) → choice.raised journal old.chip.bytes s ≡ false → new.worn s ≡ old.worn s

-- Holds after a restore succeeded on a modelled bus. If nothing had to be changed, no modifying command was sent.
pub record IsRestoredBy (choice : Choice) (journal : Content) (old new : BusState) (report : Report) : Type 0 where
  pub accepted : IsRestorable old.further choice journal old.chip
  pub made : IsTargetChip (restored journal old.chip.bytes) old.chip new.chip
  pub kept : new.chip.kept ≡ kept_in journal.status
  pub reported : IsReportedFor (choice.touched journal old.chip.bytes) (choice.raised journal old.chip.bytes)
      (restored journal old.chip.bytes) old new report
  pub unsent : report.touched ≡ 0 → (¬ NeedsStatusBy choice journal old.chip) → new.sent ≡ old.sent

-- Holds if `byte` is the byte that the journal saves for the address `a`.
abbrev pub IsSavedByte : Content → (a byte : ℕ) → Type 0
IsSavedByte journal a byte = (is_saved journal (a / 4096) ≡ true) × (byte ≡ saved_byte journal a)

-- The promises of a restore on every bus.
pub record AlwaysBy (choice : Choice) (journal : Content) (old new : BusState)
    (result : Result Report Refusal) : Type 0 where
  pub spends : Spends (most_of (length journal.saved)) old new
  pub sends : SendsSaved (IsSavedCode journal) 1 journal old new
  pub programs : ProgramsOnly (IsSavedByte journal) old new
  -- At every exit, no modifying command was sent, or the journal fits what the bus replied to the identification.
  pub fits : (new.sent ≡ old.sent) ⊎ FitsReplies journal old new
  pub writes : WritesStatusAtMost 2 old new
  pub answers : IfErr result IsRestoreRefusal
  pub names : IfErr result (NamesSector (λ sector. is_saved journal sector ≡ true))
  pub only_reads : IfErr result (λ refusal. IsCheckedFirst refusal → OnlyReads (most_reads 4096) old new)
  pub bounded : IfOk result (IsWithinCounts (choice.reads (length journal.saved)) (length journal.saved) 2 true)
  pub reported : IfOk result (λ report. SendsCounted report.erases report.programs old new)
  pub changing : IfOk result (CountsChanges (choice.reads (length journal.saved)) 2 true old new)
  pub read_back : RestoreReadsBack choice journal old new result
  pub protects : IfOk result (λ report.
      EndsProtected (λ identity code. code ≡ code_of (kept_in journal.status)) old new report.found)
  pub polled_ready : OnOk result (new.polled_ready ≡ true)
  pub last_transaction : IfErr result (λ refusal. EndsAtError refusal new.history)

-- The promises of a restore on a well-behaved bus.
pub record HonestBy (choice : Choice) (journal : Content) (old new : BusState)
    (result : Result Report Refusal) : Type 0 where
  pub honest_errors : IfErr result (HonestErrors (most_of (length journal.saved)) IsCheckedFirst old new)
  pub counted : IfOk result (λ report. Spent report.transactions old new)
  -- The restore read the touched sectors back and compared them, so this holds even for a chip that isn't genuine.
  pub checked : IfOk result (λ report. old.chip.config.size ≡ journal.size
      → HasBytes (choice.touched journal old.chip.bytes) (restored journal old.chip.bytes) new.chip)

-- The promises of a restore on a modelled bus.
pub record ModelledBy (choice : Choice) (journal : Content) (old new : BusState)
    (result : Result Report Refusal) : Type 0 where
  pub errors : IfErr result (ErrorsBy choice journal old new)
  pub leaves : LeavesBy choice journal old new
  pub done : IfOk result (IsRestoredBy choice journal old new)
  pub unwritten : (¬ NeedsStatusBy choice journal old.chip) → WritesStatusAtMost 0 old new
  pub spares : (¬ NeedsStatusBy choice journal old.chip)
      → IfOk result (IsWithinCounts (choice.reads (length journal.saved)) (length journal.saved) 0 true)

abbrev pub RestoreErrors : Content → (old new : BusState) → Refusal → Type 0
RestoreErrors journal old new refusal = ErrorsBy differing journal old new refusal

abbrev pub IsRestored : Content → (old new : BusState) → Report → Type 0
IsRestored journal old new report = IsRestoredBy differing journal old new report

abbrev pub RestoreAlways : Content → (old new : BusState) → Result Report Refusal → Type 0
RestoreAlways journal old new result = AlwaysBy differing journal old new result

abbrev pub RestoreHonest : Content → (old new : BusState) → Result Report Refusal → Type 0
RestoreHonest journal old new result = HonestBy differing journal old new result

abbrev pub RestoreModelled : Content → (old new : BusState) → Result Report Refusal → Type 0
RestoreModelled journal old new result = ModelledBy differing journal old new result

abbrev pub RewriteAlways : Content → (old new : BusState) → Result Report Refusal → Type 0
RewriteAlways journal old new result = AlwaysBy every_saved journal old new result

abbrev pub RewriteHonest : Content → (old new : BusState) → Result Report Refusal → Type 0
RewriteHonest journal old new result = HonestBy every_saved journal old new result

abbrev pub RewriteModelled : Content → (old new : BusState) → Result Report Refusal → Type 0
RewriteModelled journal old new result = ModelledBy every_saved journal old new result
