-- The promises of a session, which saves the sectors that it will change in a journal, and then changes the chip.
use Rattle.std.specs.Prelude.{◌≡◌, ◌∷◌, ◌%◌, ◌≢◌, ◌≤◌, ◌<◌, ◌+◌, ◌*◌, ◌/◌, ◌⊎◌, ℕ, Bool, true, false, List, [], Result, IfOk, IfErr, OnOk, OnErr, Ok, Err, ◌&&◌, if◌then◌else◌, ⊤}
use Rattle.nor_model.specs.Chip.{Chip, IsSame, kept_in}
use Rattle.nor_model.specs.Guard.{code_of}
use Rattle.nor_model.specs.Offer.{IsLeastCode}
use Rattle.nor_model.specs.Sent.{sent_in, is_targeted, has_written, has_programmed, has_unknown, erases_of, programs_of, status_writes_of}
use Rattle.nor_model.specs.Exchange.{Exchange}
use Rattle.nor_model.specs.History.{Continues}
use Rattle.nor_model.specs.Bus.{BusState}
use Rattle.nor_driver.specs.OnlyReads.{OnlyReads, Spent, Falls, RanOut}
use Rattle.nor_driver.specs.StatusWrites.{fixed_of, with_code, EndsWithCode}
use Rattle.nor_geometry.specs.Counts.{sector_count}
use Rattle.nor_driver.specs.Operations.{most_operation}
use Rattle.nor_driver.specs.Polls.{AddsTransactions}
use Rattle.nor_driver.specs.ReadsInTurn.{HasOnlyRead}
use Rattle.nor_plan.specs.Content.{is_touched, is_raised}
use Rattle.nor_journal.specs.Text.{Content}
use Rattle.nor_journal.specs.Vault.{VaultState, CountsRefusal}
use Rattle.nor_journal.specs.Saved.{JournalSaves, IsJournalPrefix, is_saved}
use Rattle.nor_apply.specs.Change.{MayChange}
use Rattle.nor_driver.specs.Limits.{Spends}
use Rattle.nor_request.specs.declared.request.Request.{Request}
use Rattle.nor_request.specs.declared.report.Report.{Report}
use Rattle.nor_request.specs.declared.request.What.{What}
use Rattle.nor_request.specs.declared.request.What.TheVariants.{WpRange}
use Rattle.nor_request.specs.declared.refusal.Refusal.{Refusal}
use Rattle.nor_request.specs.declared.refusal.Refusal.TheVariants.{Vault, Stopped, Timeout, Mismatch}
use Rattle.nor_request.specs.Refusal.{refusal_number}
use Rattle.nor_request.specs.Request.{wanted, scanned_sectors, IsWantedCode}
use Rattle.nor_request.specs.Errors.{EndsAtError}
use Rattle.nor_scan.specs.declared.identity.Identity.{Identity}
use Rattle.nor_scan.specs.Identity.{most_identity, needed_to_identify, status_read}
use Rattle.nor_scan.specs.Judging.{IsFoundCode}
use Rattle.nor_probe.specs.declared.probes.Found.{Found}
use Rattle.nor_probe.specs.Found.{IsPart}
use Rattle.nor_driver.specs.ReadBack.{bytes_read, HaveBeenRead, EndsReadBack, EndsReadOther}
use Rattle.nor_apply.specs.Within.{addresses_of}
use Rattle.nor_scan.specs.Scanning.{wanted_at, IsScanned, sectors_below}
use Rattle.nor_scan.specs.Replied.{IsIdentifiedBy}
use Rattle.nor_scan.specs.Saving.{header_of, header_found}
use Rattle.nor_scan.specs.SavedScan.{IsJournal, HasWholeRecords, HoldsJournal}
use Rattle.nor_session.specs.Bounds.{most_reads, most_of}
use Rattle.nor_session.specs.Made.{IsTargetChip, IsReported}
use Rattle.nor_session.specs.Changing.{HasBytes}
use Rattle.nor_scan.specs.Verdict.{IsNamed, NeedsStatusWrite, IsVerdict, IsAccepted}

-- Holds if a session may return this error and leave the vault in the state `new`. Errors 1 to 8 are returned before
-- the vault is used, and errors 9 to 11 before it is sealed.
pub record SessionReturns (old new : VaultState) (refusal : Refusal) : Type 0 where
  pub own : refusal_number refusal ≤ 14
  pub vault : refusal ≡ Vault → CountsRefusal old new
  pub unsealed : refusal_number refusal ≤ 11 → new.sealed ≡ false
  pub unused : refusal_number refusal ≤ 8 → new ≡ old

abbrev pub SavesSector : (sector : ℕ) → (bytes : List ℕ) → Type 0
SavesSector sector bytes = (journal : IsJournal bytes) × (is_saved journal.content sector ≡ true)

-- Holds if the address of a timeout or mismatch, if any, is in a sector for which `IsSuch` holds or, for a timeout, 0.
abbrev pub NamesSector : (IsSuch : (sector : ℕ) → Type 0) → Refusal → Type 0
NamesSector IsSuch (Timeout address) = (address ≡ 0) ⊎ IsSuch (address / 4096)
NamesSector IsSuch (Mismatch address) = IsSuch (address / 4096)
NamesSector IsSuch _ = ⊤

-- Holds if the address of a timeout or mismatch, if any, is in a sector that the sealed vault saves (if the vault is
-- faithful) or, for a timeout, 0. With an unsealed vault, a timeout names 0, and a mismatch does not occur.
pub record NamesAddress (vault : VaultState) (refusal : Refusal) : Type 0 where
  pub early : vault.sealed ≡ false → NamesSector (λ s. ⊥) refusal
  pub late : vault.sealed ≡ true → vault.telling ≡ true → NamesSector (λ s. SavesSector s vault.bytes) refusal

-- The greatest number of status writes of a session: one for a protection range, otherwise two if `unlock` is set (to
-- lift and restore protection) and none if it isn't.
abbrev pub most_status_writes : What → (unlock : Bool) → ℕ
most_status_writes (WpRange start len) unlock = 1
most_status_writes _ unlock = if unlock then 2 else 0

-- Holds if the journal saves a whole chip, and the sector lies past that chip's end. A chip erase (C7h) has no address,
-- so it counts as targeting this sector too.
pub record IsPastChipEnd (journal : Content) (sector : ℕ) : Type 0 where
  pub whole : (s : ℕ) → s < journal.size / 4096 → is_saved journal s ≡ true
  pub past_end : journal.size / 4096 ≤ sector

-- Holds for the protection bits that the journal saves, and for 0 (all clear).
abbrev pub IsSavedCode : Content → (code : ℕ) → Type 0
IsSavedCode journal code = (code ≡ 0) ⊎ (code ≡ code_of (kept_in journal.status))

-- Holds for the protection bits that a session may write: for a protection range the least defined value that protects
-- exactly this range, otherwise 0 (to lift protection) or the saved value.
abbrev pub IsWrittenCode : What → Content → (code : ℕ) → Type 0
IsWrittenCode (WpRange start len) journal code = IsLeastCode journal.size start len code
IsWrittenCode _ journal code = IsSavedCode journal code

-- Holds if a status write of the bytes `one` and `two` is allowed: `IsCode` holds for its protection bits, its other
-- non-volatile bits are the journal's, and BUSY, WEL and SUS are clear.
pub record WritesOnly (IsCode : (code : ℕ) → Type 0) (journal : Content) (one two : ℕ) : Type 0 where
  pub fixed : fixed_of (kept_in (one ∷ two ∷ [])) ≡ fixed_of (kept_in journal.status)
  pub code : IsCode (code_of (kept_in (one ∷ two ∷ [])))
  pub clear1 : one % 4 ≡ 0
  pub clear2 : two < 128

-- Holds if what `calls` calls sent fits this journal: the calls targeted only saved sectors (for a chip erase see
-- `IsPastChipEnd`), wrote only allowed status bytes, and sent no unknown transaction. They sent at
-- most `calls` times as many erases as sectors are saved, and at most 16 page programs for each erase so allowed.
pub record SendsSaved (IsCode : ℕ → Type 0) (calls : ℕ) (journal : Content) (old new : BusState) : Type 0 where
  pub targeted : (s : ℕ) → (is_targeted new.sent s ≡ is_targeted old.sent s)
      ⊎ ((is_saved journal s ≡ true) ⊎ IsPastChipEnd journal s)
  pub written : (one two : ℕ) → (has_written new.sent one two ≡ has_written old.sent one two)
      ⊎ WritesOnly IsCode journal one two
  pub erases : erases_of new.sent ≤ erases_of old.sent + calls * sector_count (is_saved journal)
  pub programs : programs_of new.sent ≤ programs_of old.sent + calls * (16 * sector_count (is_saved journal))
  pub unknown : has_unknown new.sent ≡ has_unknown old.sent

-- Holds if each byte that page programs since `old` programmed satisfies `IsByte` for its address. A byte that a page
-- program before `old` had programmed at the same address may be programmed again.
abbrev pub ProgramsOnly : (IsByte : (a byte : ℕ) → Type 0) → (old new : BusState) → Type 0
ProgramsOnly IsByte old new =
    (a byte : ℕ) → (has_programmed new.sent a byte ≡ has_programmed old.sent a byte) ⊎ IsByte a byte

-- Holds if at most 4,096 erases, 65,536 page programs and no unknown transaction were sent.
pub record SendsFew (old new : BusState) : Type 0 where
  pub erases : erases_of new.sent ≤ erases_of old.sent + 4096
  pub programs : programs_of new.sent ≤ programs_of old.sent + 65536
  pub unknown : has_unknown new.sent ≡ has_unknown old.sent

pub record SendsCounted (erases programs : ℕ) (old new : BusState) : Type 0 where
  pub erased : erases_of new.sent ≡ erases_of old.sent + erases
  pub programmed : programs_of new.sent ≡ programs_of old.sent + programs

abbrev pub WritesStatusAtMost : ℕ → (old new : BusState) → Type 0
WritesStatusAtMost most old new = status_writes_of new.sent ≤ status_writes_of old.sent + most

-- Holds if the counts of a report are within bounds, where `reads` sectors are read before the first change, at most
-- `sectors` are touched, and at most `writes` status writes are sent.
pub record IsWithinCounts (reads sectors writes : ℕ) (verify : Bool) (report : Report) : Type 0 where
  pub touched : report.touched ≤ sectors
  pub erases : report.erases ≤ sectors
  pub programs : report.programs ≤ 16 * sectors
  pub few : report.transactions
      ≤ most_reads reads + report.touched + (if verify then report.touched else 0)
      + most_operation * (report.erases + report.programs + writes)
  pub least : 4 + reads + (if verify then report.touched else 0) + 3 * (report.erases + report.programs)
      ≤ report.transactions

abbrev pub IsWithinBound : (scanned writes : ℕ) → (verify : Bool) → Report → Type 0
IsWithinBound scanned writes verify report = IsWithinCounts scanned scanned writes verify report

-- Holds if a call with this report only read until the state `before`. Then it sent at most one read (two with
-- `verify`) for each touched sector, three transactions for each operation, and polls that showed BUSY.
pub record CountsChanges (reads writes : ℕ) (verify : Bool) (old new : BusState) (report : Report) : Type 0 where
  pub before : BusState
  pub first : ℕ
  pub changing : ℕ
  pub only_read : HasOnlyRead first old before
  pub few : first ≤ most_reads reads
  pub sum : report.transactions ≡ first + changing
  pub added : AddsTransactions changing
      (report.touched + (if verify then report.touched else 0) + 3 * (report.erases + report.programs + writes))
      before.history new.history

pub record EndsSealed (request : Request) (old new : BusState) (vault vault' : VaultState)
    (report : Report) : Type 0 where
  pub sealed : vault'.sealed ≡ true
  pub failures : vault'.failures ≡ vault.failures
  pub sent : SendsCounted report.erases report.programs old new
  pub bounded : IsWithinBound (scanned_sectors request report.found.size)
      (most_status_writes request.what request.unlock) request.verify report
  pub changing : CountsChanges (scanned_sectors request report.found.size)
      (most_status_writes request.what request.unlock) request.verify old new report

-- Holds if a call may return this error on a well-behaved bus. After an error for which `IsEarly` holds, other than a
-- stop, bytes and non-volatile status bits are as they were.
abbrev pub HonestErrors : (most : ℕ) → (IsEarly : Refusal → Type 0) → (old new : BusState) → Refusal → Type 0
HonestErrors most IsEarly old new Stopped = RanOut most old new
HonestErrors most IsEarly old new (Timeout address) = ⊥
HonestErrors most IsEarly old new refusal = IsEarly refusal → IsSame old.chip new.chip

-- Holds if a session may return this error on a modelled bus: the verdict on the request, 11 because the vault failed,
-- or 12 because the bus stopped.
abbrev pub SessionErrors : Request → List ℕ → (old new : BusState) → (vault vault' : VaultState) → Refusal → Type 0
SessionErrors request image old new vault vault' Vault = CountsRefusal vault vault'
SessionErrors request image old new vault vault' Stopped = RanOut (most_of (old.chip.config.size / 4096)) old new
SessionErrors request image old new vault vault' refusal = IsVerdict old.further request image old.chip refusal

-- Holds after a session succeeded on a modelled bus. If nothing had to be changed, no modifying command was sent.
pub record IsDone (request : Request) (image : List ℕ) (old new : BusState) (report : Report) : Type 0 where
  pub made : IsTargetChip (wanted request image old.chip) old.chip new.chip
  pub code : ℕ
  pub is_wanted : IsWantedCode request.what old.chip code
  pub kept : new.chip.kept ≡ with_code code old.chip.kept
  pub reported : IsReported (wanted request image old.chip) old new report
  pub unsent : report.touched ≡ 0 → ¬ NeedsStatusWrite request image old.chip → new.sent ≡ old.sent

-- Holds at every exit after the seal, on a modelled bus: the request is accepted, a faithful vault holds a journal of
-- the original chip that saves exactly the touched sectors, and the chip changed only as `MayChange` allows.
pub record CanBeUndone (request : Request) (image : List ℕ) (old new : BusState) (vault : VaultState) : Type 0 where
  pub accepted : IsAccepted old.further request image old.chip
  pub journal : vault.telling ≡ true
      → JournalSaves (header_of old.chip) old.chip.bytes
      (is_touched old.chip.bytes (wanted request image old.chip)) vault.bytes
  pub changes : MayChange (is_touched old.chip.bytes (wanted request image old.chip))
      (is_raised old.chip.bytes (wanted request image old.chip))
      (wanted request image old.chip) old new
  pub further : new.further ≡ old.further
  pub spent : old.punctual ≡ true → new.left + (4 + scanned_sectors request old.chip.config.size) ≤ old.left

-- Holds if there are no bytes, or if the chip has the requested name, if any (`IsNamed`), and the bytes are a prefix of
-- the only journal that the session can write.
abbrev pub HoldsBegun : (further : Bool) → Request → (image : List ℕ) → Chip → (bytes : List ℕ) → Type 0
HoldsBegun further request image chip bytes = (bytes ≡ [])
    ⊎ (IsNamed further request.named chip.config
    × IsJournalPrefix (header_of chip) chip.bytes (is_touched chip.bytes (wanted request image chip)) bytes)

-- Holds if the bytes are a journal of what the bus had last replied at some point of the session (history `at_seal`),
-- before any modifying command.
pub record IsJournalOfReplies (old new : BusState) (bytes : List ℕ) : Type 0 where
  pub at_seal : List Exchange
  pub before : Continues old.history at_seal
  pub unsent : sent_in at_seal ≡ sent_in old.history
  pub after : Continues at_seal new.history
  pub identity : Identity
  pub part : IsPart old.further identity.found
  pub replied : IsIdentifiedBy old.further at_seal identity
  pub sectors : ℕ → Bool
  pub saves : JournalSaves (header_found identity) (bytes_read at_seal) sectors bytes

abbrev pub touched_for : Request → (image : List ℕ) → (size : ℕ) → (read : ℕ → ℕ) → (s : ℕ) → Bool
touched_for request image size read s =
    sectors_below (size / 4096) s && is_touched read (wanted_at request image size read) s

-- Holds if `byte` is the target byte of the request at the address `a`, which is in a touched sector. Both follow from
-- `read`, the bytes that were read from a chip of `size` bytes.
abbrev pub IsTargetRead : Request → (image : List ℕ) → (size : ℕ) → (read : ℕ → ℕ) → (a byte : ℕ) → Type 0
IsTargetRead request image size read a byte =
    (touched_for request image size read (a / 4096) ≡ true) × (byte ≡ wanted_at request image size read a)

-- Holds if the session programmed only target bytes of touched sectors, as they follow from what the bus had last
-- replied at some point of the session (history `at_seal`) before the first modifying command. A faithful vault holds
-- a journal of the same replies.
pub record ProgramsTargets (request : Request) (image : List ℕ) (old new : BusState) (vault : VaultState) : Type 0 where
  pub at_seal : List Exchange
  pub before : Continues old.history at_seal
  pub after : Continues at_seal new.history
  pub unsent : sent_in at_seal ≡ sent_in old.history
  pub identity : Identity
  pub part : IsPart old.further identity.found
  pub replied : IsIdentifiedBy old.further at_seal identity
  pub saves : vault.telling ≡ true → JournalSaves (header_found identity) (bytes_read at_seal)
      (touched_for request image identity.found.size (bytes_read at_seal)) vault.bytes
  pub programs : ProgramsOnly (IsTargetRead request image identity.found.size (bytes_read at_seal)) old new

-- Holds if the result fits what was read back. `scanned` is the state at the end of the scan, before any modifying
-- command. After success with `verify` set, each scanned sector had been read by then, and the last transactions, after
-- all modifying commands, read the touched sectors with their target bytes. A mismatch names the first address in these
-- sectors at which another byte was read.
abbrev pub SessionReadsBack : Request → (image : List ℕ) → (old new : BusState) → Result Report Refusal → Type 0
SessionReadsBack request image old new (Ok report) = request.verify ≡ true
    → (scanned : BusState) × OnlyReads (most_reads 4096) old scanned
    × HaveBeenRead (IsScanned request report.found.size) old.history scanned.history
    × EndsReadBack (addresses_of (touched_for request image report.found.size (bytes_read scanned.history)))
    (wanted_at request image report.found.size (bytes_read scanned.history)) scanned.history new.history
SessionReadsBack request image old new (Err (Mismatch address)) =
    (size : ℕ) × (scanned : BusState) × OnlyReads (most_reads 4096) old scanned
    × EndsReadOther (addresses_of (touched_for request image size (bytes_read scanned.history)))
    (wanted_at request image size (bytes_read scanned.history)) address scanned.history new.history
SessionReadsBack request image old new (Err _) = ⊤

-- Holds if `code`, for which `IsTarget` holds, has the protection bits that were last written since `old` or, if no
-- status write was sent since, those that the identification read, before any modifying command. The identification
-- found the chip `found`.
pub record EndsProtected (IsTarget : Identity → (code : ℕ) → Type 0) (old new : BusState)
    (found : Found) : Type 0 where
  pub identified : BusState
  pub only_reads : OnlyReads most_identity old identified
  pub after : Continues identified.history new.history
  pub identity : Identity
  pub same : identity.found ≡ found
  pub replied : IsIdentifiedBy old.further identified.history identity
  pub code : ℕ
  pub is_target : IsTarget identity code
  pub ends : EndsWithCode (code_of (kept_in (status_read identity))) code old new

-- The promises of a session on every bus and with every vault.
pub record SessionAlways (request : Request) (image : List ℕ) (old new : BusState) (vault vault' : VaultState)
    (result : Result Report Refusal) : Type 0 where
  pub only_reads : vault'.sealed ≡ false → OnlyReads (most_reads 4096) old new
  pub spends : Spends (most_of 4096) old new
  pub few : SendsFew old new
  pub writes : WritesStatusAtMost (most_status_writes request.what request.unlock) old new
  pub telling : vault'.telling ≡ vault.telling
  pub sends : vault'.sealed ≡ true → vault'.telling ≡ true → (journal : IsJournal vault'.bytes)
      × SendsSaved (IsWrittenCode request.what journal.content) 1 journal.content old new
  pub holds : HoldsJournal vault'
  -- If a faithful vault is sealed, its journal contains what the bus replied, even if the bus isn't well-behaved.
  pub replied : vault'.sealed ≡ true → vault'.telling ≡ true → IsJournalOfReplies old new vault'.bytes
  -- If the vault is sealed, faithful or not, only target bytes were programmed, even if the bus isn't well-behaved.
  pub programs : vault'.sealed ≡ true → ProgramsTargets request image old new vault'
  pub answers : IfErr result (SessionReturns vault vault')
  pub names : IfErr result (NamesAddress vault')
  pub ends : IfOk result (EndsSealed request old new vault vault')
  pub read_back : SessionReadsBack request image old new result
  pub protects : IfOk result (λ report. EndsProtected (IsFoundCode request.what) old new report.found)
  pub polled_ready : OnOk result (new.polled_ready ≡ true)
  pub last_transaction : IfErr result (λ refusal. EndsAtError refusal new.history)

-- The promises of a session on a well-behaved bus.
pub record SessionHonest (request : Request) (image : List ℕ) (old new : BusState)
    (result : Result Report Refusal) : Type 0 where
  pub honest_errors : IfErr result (HonestErrors (most_of 4096) (λ refusal. refusal_number refusal ≤ 11) old new)
  pub counted : IfOk result (λ report. Spent report.transactions old new)
  -- If `verify` is set, the session read the touched sectors back and compared them, so this holds even for a chip that
  -- isn't genuine.
  pub checked : IfOk result (λ report. request.verify ≡ true → old.chip.config.size ≡ report.found.size
      → HasBytes (is_touched old.chip.bytes (wanted request image old.chip)) (wanted request image old.chip) new.chip)

-- The promises of a session on a modelled bus.
pub record SessionModelled (request : Request) (image : List ℕ) (old new : BusState) (vault vault' : VaultState)
    (result : Result Report Refusal) : Type 0 where
  pub falls : Falls (most_of (old.chip.config.size / 4096)) old new
  pub errors : IfErr result (SessionErrors request image old new vault vault')
  pub done : IfOk result (IsDone request image old new)
  pub unwritten : ¬ NeedsStatusWrite request image old.chip → WritesStatusAtMost 0 old new
  pub spares : ¬ NeedsStatusWrite request image old.chip
      → IfOk result (IsWithinBound (scanned_sectors request old.chip.config.size) 0 request.verify)
  pub early : vault'.sealed ≡ false → old.punctual ≡ true → IfErr result (λ refusal. refusal ≡ Stopped
      → old.left < needed_to_identify old.further old.chip + scanned_sectors request old.chip.config.size)
  -- After an error other than 11, an unsealed faithful vault is empty, or holds the header and complete records of the
  -- only journal that the session can write.
  pub begins : vault'.sealed ≡ false → vault'.telling ≡ true → IfErr result (λ refusal. refusal ≢ Vault
      → (vault'.bytes ≡ [])
      ⊎ HasWholeRecords (header_of old.chip) old.chip.bytes
      (is_touched old.chip.bytes (wanted request image old.chip)) vault'.bytes)
  pub cut : vault'.sealed ≡ false → vault'.telling ≡ true
      → OnErr result (HoldsBegun old.further request image old.chip vault'.bytes)
  pub undo : vault'.sealed ≡ true → CanBeUndone request image old new vault'
