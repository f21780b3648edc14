-- What a restore finds out about a chip before it changes anything.
use Rattle.std.specs.Prelude.{◌≡◌, ◌≢◌, ◌<◌, ◌≤◌, ◌+◌, ◌/◌, ◌||◌, ◌⊎◌, ℕ, Bool, true, List, Result, None, Ok, Err, IfErr, OnOk, OnErr, IfOk, MatchBool, length, slice_index, ⊤}
use Rattle.nor_model.specs.Guard.{code_of}
use Rattle.nor_model.specs.Chip.{Chip, IsSame, is_locked, status1_of, kept_in}
use Rattle.nor_model.specs.Status.{bytes_of}
use Rattle.nor_model.specs.History.{Continues, EndsBusy}
use Rattle.nor_model.specs.Bus.{BusState}
use Rattle.nor_driver.specs.OnlyReads.{OnlyReads, Rested, Spent, HasStopped, IsOpen}
use Rattle.nor_driver.specs.ReadsInTurn.{HasOnlyRead}
use Rattle.nor_driver.specs.ReadBack.{bytes_read, HaveBeenRead}
use Rattle.nor_driver.specs.StatusWrites.{fixed_of}
use Rattle.nor_driver.specs.Reads.{ReadsSector}
use Rattle.nor_plan.specs.Content.{is_touched, is_raised}
use Rattle.nor_journal.specs.Text.{Content}
use Rattle.nor_journal.specs.Saved.{is_saved, saved_byte}
use Rattle.nor_plan.specs.declared.plan.SectorPlan.{SectorPlan}
use Rattle.nor_plan.specs.Plan.{AreBytesOf, IsPlan}
use Rattle.nor_plan.specs.SectorSet.{has}
use Rattle.nor_probe.specs.declared.probes.ProbeFault.TheVariants as Probes
use Rattle.nor_probe.specs.Known.{shown_as, IsModelled}
use Rattle.nor_probe.specs.Found.{part_in}
use Rattle.nor_apply.specs.declared.changes.Changes.{Changes}
use Rattle.nor_apply.specs.Applying.{AreConsistent, writes_code, CanApply}
use Rattle.nor_scan.specs.declared.identity.Identity.{Identity}
use Rattle.nor_scan.specs.declared.scanning.Scanned.{Scanned}
use Rattle.nor_request.specs.declared.refusal.Refusal.{Refusal}
use Rattle.nor_request.specs.declared.refusal.Refusal.TheVariants.{NoChip, UnknownChip, StatusLocked, Stopped, Timeout, OtherChip, OtherUnit, StatusDiffers}
use Rattle.nor_scan.specs.Identity.{most_identity, status_read}
use Rattle.nor_scan.specs.Replied.{IsIdentifiedBy}
use Rattle.nor_scan.specs.Scanning.{AreMarks}
use Rattle.nor_scan.specs.Saving.{IsIdentityOf, NoneProtected, SomeProtected}
use Rattle.nor_session.specs.declared.prepare_restore.PreparedRestore.{PreparedRestore}
use Rattle.nor_session.specs.Bounds.{most_reads}
use Rattle.nor_session.specs.Changing.{touched_count}
use Rattle.nor_session.specs.Headline.{IsOfType, RestoresOriginal}
use Rattle.nor_request.specs.declared.report.Report.{Report}
use Rattle.nor_scan.specs.Verdict.{IsNamed}
use Rattle.nor_session.specs.Restore.{Choice, every_saved, IsOfOtherDevice, FitsStatus, NeedsStatusBy, IsCheckedFirst, restored, IsLeft, FitsReplies, AlwaysBy, HonestBy, ModelledBy}

pub record FitsJournal (further : Bool) (journal : Content) (chip : Chip) : Type 0 where
  pub named : IsNamed further None chip.config
  pub kind : IsOfType journal chip.config
  pub unit : ¬ IsOfOtherDevice journal chip.config
  pub fixed : FitsStatus journal chip

-- Holds if a check of a restore fails with this error, and all earlier checks pass.
abbrev pub RestoreJudges : (further : Bool) → Choice → Content → Chip → Refusal → Type 0
RestoreJudges further choice journal chip NoChip = shown_as further chip.config ≡ Err Probes.NoChip
RestoreJudges further choice journal chip (UnknownChip fault) =
    shown_as further chip.config ≡ Err (Probes.UnknownChip fault)
RestoreJudges further choice journal chip OtherChip =
    IsNamed further None chip.config × (¬ IsOfType journal chip.config)
RestoreJudges further choice journal chip OtherUnit =
    IsNamed further None chip.config × IsOfType journal chip.config × IsOfOtherDevice journal chip.config
RestoreJudges further choice journal chip StatusDiffers =
    IsNamed further None chip.config × IsOfType journal chip.config × (¬ IsOfOtherDevice journal chip.config)
    × (¬ FitsStatus journal chip)
RestoreJudges further choice journal chip StatusLocked =
    FitsJournal further journal chip × (is_locked chip.kept ≡ true) × NeedsStatusBy choice journal chip
RestoreJudges further choice journal chip _ = ⊥

pub record RestoreAccepts (further : Bool) (choice : Choice) (journal : Content) (chip : Chip) : Type 0 where
  pub fits : FitsJournal further journal chip
  pub not_locked : is_locked chip.kept ≡ true → ¬ NeedsStatusBy choice journal chip

abbrev pub IsDeviceRefusal : Refusal → Type 0
IsDeviceRefusal OtherUnit = ⊤
IsDeviceRefusal StatusDiffers = ⊤
IsDeviceRefusal _ = ⊥

-- Holds if the journal fits each chip that has this identification and a `kept.two` below 128.
abbrev pub FitsIdentity : Content → Identity → Type 0
FitsIdentity journal identity =
    (further : Bool) (chip : Chip) → chip.kept.two < 128 → IsIdentityOf further chip identity
    → FitsJournal further journal chip

abbrev pub ShowsFixed : Content → Identity → Bool → Type 0
ShowsFixed journal identity shown =
    (further : Bool) (chip : Chip) → chip.kept.two < 128 → IsIdentityOf further chip identity
    → MatchBool shown (FitsStatus journal chip) (¬ FitsStatus journal chip)

abbrev pub AcceptsDevice : Content → Identity → Result Unit Refusal → Type 0
AcceptsDevice journal identity judged =
    (further : Bool) (chip : Chip) → chip.kept.two < 128 → IsIdentityOf further chip identity
    → IsOfType journal chip.config → OnOk judged (FitsJournal further journal chip)

abbrev pub RefusesDevice : Content → Identity → Result Unit Refusal → Type 0
RefusesDevice journal identity judged = (choice : Choice) (further : Bool) (chip : Chip) → chip.kept.two < 128
    → IsIdentityOf further chip identity → IsOfType journal chip.config
    → IfErr judged (RestoreJudges further choice journal chip)

-- Holds if a check returns this error. On a modelled bus the error is that of the first check that fails.
pub record IsRefusedFor (choice : Choice) (journal : Content) (old new : BusState) (refusal : Refusal) : Type 0 where
  pub judged : IsCheckedFirst refusal
  pub same : old.honest ≡ true → IsSame old.chip new.chip
  pub verdict : IsModelled old → RestoreJudges old.further choice journal old.chip refusal

-- Holds if a restore may return this error before the first change. A timeout names address 0, and does not occur on a
-- well-behaved bus.
abbrev pub PrepareErrors : Choice → Content → ℕ → (old new : BusState) → Refusal → Type 0
PrepareErrors choice journal most old new Stopped = HasStopped most old new
PrepareErrors choice journal most old new (Timeout address) =
    (address ≡ 0) × EndsBusy new.history × (old.honest ≡ true → ⊥)
PrepareErrors choice journal most old new refusal = IsRefusedFor choice journal old new refusal

-- Holds after a sector was read as `bytes`. The plan says whether a change to `saved` is needed, and needs an erase.
pub record PlansSaved (sector : ℕ) (saved bytes : List ℕ) (old new : BusState) (plan : SectorPlan) : Type 0 where
  pub small : (k : ℕ) → slice_index saved k < 256
  pub read : ReadsSector sector old new bytes
  pub whole : length bytes ≡ 4096
  pub honest_reads : HasOnlyRead 1 old new
  pub needed : plan.raised ≡ true → plan.touched ≡ true
  pub planned : (content wanted : ℕ → ℕ) → AreBytesOf content bytes → AreBytesOf wanted saved
      → IsPlan content wanted 4096 plan

-- Holds after a restore marked the touched sectors that `choice` selects for the bytes that were read. On a
-- well-behaved bus with an idle chip of the journal's size, the marks are also right for the chip's bytes.
pub record MarksChosen (choice : Choice) (journal : Content) (old new : BusState) (scanned : Scanned) : Type 0 where
  pub marks : AreMarks (journal.size / 4096) scanned
  pub saved : (s : ℕ) → has scanned.touched s ≡ true → is_saved journal s ≡ true
  pub bytes : (a : ℕ) → is_saved journal (a / 4096) ≡ true → saved_byte journal a < 256
  pub few : scanned.count ≤ length journal.saved
  pub room : length journal.saved ≤ 4096
  pub honest_reads : HasOnlyRead (choice.reads (length journal.saved)) old new
  pub replied : (s : ℕ) → has scanned.touched s ≡ choice.touched journal (bytes_read new.history) s
  pub read : HaveBeenRead (IsLeft choice journal (bytes_read new.history)) old.history new.history
  pub touched : IsOpen journal.size old → (s : ℕ)
      → has scanned.touched s ≡ choice.touched journal old.chip.bytes s
  pub raised : IsOpen journal.size old → (s : ℕ)
      → has scanned.raised s ≡ choice.raised journal old.chip.bytes s

abbrev pub plan_of_rewritten : SectorPlan
plan_of_rewritten = record { touched = true; raised = true }

pub record MarksSaved (journal : Content) (scanned : Scanned) : Type 0 where
  pub touched : (s : ℕ) → has scanned.touched s ≡ is_saved journal s
  pub raised : (s : ℕ) → has scanned.raised s ≡ is_saved journal s
  pub chosen : (state : BusState) → MarksChosen every_saved journal state state scanned

pub record AreChanges (journal : Content) (identity : Identity) (scanned : Scanned) (changes : Changes) : Type 0 where
  pub touched : changes.touched ≡ scanned.touched
  pub raised : changes.raised ≡ scanned.raised
  pub kinds : changes.kinds ≡ identity.found.kinds
  pub size : changes.size ≡ identity.found.size
  pub one : changes.status.one.0 ≡ identity.found.status1
  pub two : changes.status.two.0 ≡ identity.status2
  pub code : changes.code ≡ code_of (kept_in journal.status)
  pub six_bits : changes.code < 64

abbrev pub NeedsStatusWith : Content → (touched : ℕ → Bool) → Chip → Type 0
NeedsStatusWith journal touched chip =
    (code_of chip.kept ≢ code_of (kept_in journal.status)) ⊎ SomeProtected touched chip

-- Holds if the changes lift protection if and only if a touched sector is protected, and need no status write if the
-- status is locked.
pub record MayChangeStatus (journal : Content) (touched : ℕ → Bool) (chip : Chip) (changes : Changes) : Type 0 where
  pub lifts : changes.unlock ≡ true → SomeProtected touched chip
  pub free : changes.unlock ≡ true ⊎ NoneProtected touched chip
  pub not_locked : is_locked chip.kept ≡ true → ¬ NeedsStatusWith journal touched chip

pub record IsShut (journal : Content) (touched : ℕ → Bool) (chip : Chip) : Type 0 where
  pub locked : is_locked chip.kept ≡ true
  pub needs : NeedsStatusWith journal touched chip

abbrev pub MakesChanges : Content → Identity → (ℕ → Bool) → Result Changes Refusal → Type 0
MakesChanges journal identity touched judged =
    (further : Bool) (chip : Chip) → IsIdentityOf further chip identity
    → IfOk judged (MayChangeStatus journal touched chip)

abbrev pub RefusesShut : Content → Identity → (ℕ → Bool) → Result Changes Refusal → Type 0
RefusesShut journal identity touched judged =
    (further : Bool) (chip : Chip) → IsIdentityOf further chip identity → OnErr judged (IsShut journal touched chip)

-- Holds after a restore was prepared on a modelled bus: all checks pass, and the changes can be made (`CanApply`).
pub record IsPreparedFor (further : Bool) (choice : Choice) (journal : Content) (old new : Chip)
    (prepared : PreparedRestore) : Type 0 where
  pub accepted : RestoreAccepts further choice journal old
  pub shown : shown_as further old.config ≡ Ok (part_in prepared.found)
  pub status1 : prepared.found.status1 / 4 ≡ old.kept.one
  pub replied : old.busy ≡ 0 → prepared.found.status1 ≡ status1_of old
  pub kinds : prepared.changes.kinds ≡ old.config.kinds
  pub size : prepared.changes.size ≡ old.config.size
  pub code : prepared.changes.code ≡ code_of (kept_in journal.status)
  pub touched : (s : ℕ) → has prepared.changes.touched s ≡ choice.touched journal old.bytes s
  pub raised : (s : ℕ) → has prepared.changes.raised s ≡ choice.raised journal old.bytes s
  pub can : CanApply prepared.changes (saved_byte journal) new
  pub needed : (prepared.changes.unlock || writes_code prepared.changes) ≡ true
      → NeedsStatusBy choice journal old

-- Holds after a restore was prepared, on every bus.
pub record IsPreparedRestore (choice : Choice) (journal : Content) (old new : BusState)
    (prepared : PreparedRestore) : Type 0 where
  pub consistent : AreConsistent prepared.changes
  pub sized : prepared.changes.size ≡ journal.size
  pub saved : (s : ℕ) → has prepared.changes.touched s ≡ true → is_saved journal s ≡ true
  pub fixed : fixed_of (kept_in (bytes_of prepared.changes.status)) ≡ fixed_of (kept_in journal.status)
  pub code : prepared.changes.code ≡ code_of (kept_in journal.status)
  pub count : prepared.touched ≡ touched_count prepared.changes
  pub few : prepared.touched ≤ length journal.saved
  pub room : length journal.saved ≤ 4096
  pub least : 4 + choice.reads (length journal.saved) ≤ prepared.transactions
  pub most : prepared.transactions ≤ most_reads (choice.reads (length journal.saved))
  pub polled_ready : new.polled_ready ≡ true
  pub rested : old.honest ≡ true → Rested old new
  pub idle : old.honest ≡ true → new.chip.busy ≡ 0
  pub sent : old.honest ≡ true → Spent prepared.transactions old new
  pub replied : (s : ℕ) → has prepared.changes.touched s ≡ choice.touched journal (bytes_read new.history) s
  pub read : HaveBeenRead (IsLeft choice journal (bytes_read new.history)) old.history new.history
  pub touched : old.honest ≡ true → old.chip.config.size ≡ journal.size → (s : ℕ)
      → has prepared.changes.touched s ≡ choice.touched journal old.chip.bytes s
  pub modelled : IsModelled old → IsPreparedFor old.further choice journal old.chip new.chip prepared

-- Holds if a choice of sectors is sufficient for a restore: it touches each saved sector in which a byte differs, and
-- raises each one in which a bit must go from 0 to 1. It touches only saved sectors, raises only touched ones, and
-- reads at most as many sectors as are saved.
pub record IsSoundChoice (choice : Choice) : Type 0 where
  pub saved : (journal : Content) (content : ℕ → ℕ) (s : ℕ) → choice.touched journal content s ≡ true
      → is_saved journal s ≡ true
  pub differs : (journal : Content) (content : ℕ → ℕ) (s : ℕ) → is_touched content (restored journal content) s ≡ true
      → choice.touched journal content s ≡ true
  pub rises : (journal : Content) (content : ℕ → ℕ) (s : ℕ) → is_raised content (restored journal content) s ≡ true
      → choice.raised journal content s ≡ true
  pub inside : (journal : Content) (content : ℕ → ℕ) (s : ℕ) → choice.raised journal content s ≡ true
      → choice.touched journal content s ≡ true
  pub few : (saved : ℕ) → choice.reads saved ≤ saved

-- Holds if the status of the changes is what the bus replied to the identification, before any modifying command.
pub record HasStatusRead (old new : BusState) (prepared : PreparedRestore) : Type 0 where
  pub identified : BusState
  pub only_reads : OnlyReads most_identity old identified
  pub after : Continues identified.history new.history
  pub identity : Identity
  pub same : identity.found ≡ prepared.found
  pub replied : IsIdentifiedBy old.further identified.history identity
  pub status : bytes_of prepared.changes.status ≡ status_read identity

pub record HasPrepared (choice : Choice) (journal : Content) (old new : BusState)
    (prepared : PreparedRestore) : Type 0 where
  pub sound : IsSoundChoice choice
  pub only_reads : OnlyReads (most_reads (choice.reads (length journal.saved))) old new
  pub is : IsPreparedRestore choice journal old new prepared
  pub replies : FitsReplies journal old new
  pub has_read : HasStatusRead old new prepared

pub record KeepsPromises (choice : Choice) (journal : Content) (old new : BusState)
    (result : Result Report Refusal) : Type 0 where
  pub restores_original : IsModelled old → RestoresOriginal journal old new result
  pub always : AlwaysBy choice journal old new result
  pub honest : old.honest ≡ true → HonestBy choice journal old new result
  pub modelled : IsModelled old → ModelledBy choice journal old new result
