-- The promises of a rehearsal, which runs a session that may be stopped on purpose, and restores from its journal.
use Rattle.std.specs.Prelude.{◌≡◌, ◌≤◌, ◌<◌, ◌+◌, ◌-◌, ◌*◌, ◌/◌, ◌==◌, ◌++◌, ◌⊎◌, max, ℕ, zero, suc, Bool, true, false, List, [], ◌∷◌, Result, IfOk, IfErr, OnErr, drop, length, slice_index, slice_index_or, if◌then◌else◌}
use Rattle.std.specs.List.{list_any}
use Rattle.nor_model.specs.Chip.{Chip, IsSame}
use Rattle.nor_model.specs.Bus.{BusState, SameNature}
use Rattle.nor_journal.specs.Vault.{VaultState, CountsRefusal}
use Rattle.nor_journal.specs.Saved.{JournalSaves}
use Rattle.nor_geometry.specs.Counts.{sector_count}
use Rattle.nor_plan.specs.Content.{is_touched}
use Rattle.nor_journal.specs.Text.{Content}
use Rattle.nor_request.specs.declared.request.Request.{Request}
use Rattle.nor_request.specs.declared.request.What.{What}
use Rattle.nor_request.specs.declared.refusal.Refusal.{Refusal}
use Rattle.nor_request.specs.declared.refusal.Refusal.TheVariants.{Vault}
use Rattle.nor_request.specs.Refusal.{refusal_number}
use Rattle.nor_request.specs.Errors.{EndsAtError}
use Rattle.nor_request.specs.Request.{wanted, scanned_sectors}
use Rattle.nor_scan.specs.Saving.{header_of}
use Rattle.nor_scan.specs.SavedScan.{IsJournal}
use Rattle.nor_session.specs.declared.rehearsals.Rehearsal.{Rehearsal}
use Rattle.nor_scan.specs.Identity.{needed_to_identify}
use Rattle.nor_session.specs.Bounds.{most_of}
use Rattle.nor_session.specs.Made.{AreFewestErases, pages_of}
use Rattle.nor_scan.specs.Verdict.{IsVerdict, IsAccepted}
use Rattle.nor_session.specs.Session.{SessionReturns, NamesAddress, IsSavedCode, IsWrittenCode, most_status_writes, SendsSaved, ProgramsOnly, ProgramsTargets, WritesStatusAtMost}
use Rattle.nor_session.specs.Restore.{IsRestoreRefusal, IsSavedByte}

abbrev pub first_allowance : List ℕ → ℕ
first_allowance [] = most_of 4096
first_allowance (first ∷ later) = first

-- The allowances of the first `n` calls of a rehearsal, with that of the last call first. The allowance of a call is
-- its entry of `stops` or, if there is none, the bound for a session on a chip of 16 MiB.
abbrev pub allowances_of : (stops : List ℕ) → (n : ℕ) → List ℕ
allowances_of stops zero = []
allowances_of stops (suc n) = slice_index_or stops n (most_of 4096) ∷ allowances_of stops n

-- Holds if the allowances of `calls` calls were set, for some `calls` from `least` to `most`.
pub record AllowsStops (stops : List ℕ) (least most : ℕ) (old new : BusState) : Type 0 where
  pub calls : ℕ
  pub some : least ≤ calls
  pub few : calls ≤ most
  pub is : new.allowances ≡ allowances_of stops calls ++ old.allowances

-- Holds for the result and the vault of each successful rehearsal whose argument `stops` had `stops` entries.
pub record IsRehearsal (stops : ℕ) (vault : VaultState) (rehearsal : Rehearsal) : Type 0 where
  pub seal : rehearsal.sealed ≡ vault.sealed
  pub ended : rehearsal.ended ≡ true → rehearsal.sealed ≡ true
  pub some : rehearsal.sealed ≡ true → 1 ≤ rehearsal.restores
  pub most : rehearsal.restores ≤ max 1 stops
  pub none : rehearsal.sealed ≡ false → rehearsal.restores ≡ 0
  pub whole : stops ≡ 0 → rehearsal.ended ≡ true

-- A lower bound on the transactions of a session with this number of erases: four for the identification, one for each
-- scanned sector, and three for each erase and each page program. Status writes and later reads aren't counted.
abbrev pub least_needed : Request → (image : List ℕ) → Chip → (erases : ℕ) → ℕ
least_needed request image chip erases =
    4 + scanned_sectors request chip.config.size + 3 * (erases + pages_of chip.bytes (wanted request image chip))

-- Holds if the request is accepted and the allowance is at least `least_needed` for the fewest erases. On a modelled,
-- punctual bus, only then can a session succeed.
pub record CanEnd (further : Bool) (request : Request) (image : List ℕ) (allowance : ℕ) (chip : Chip) : Type 0 where
  pub accepted : IsAccepted further request image chip
  pub erases : ℕ
  pub fewest : AreFewestErases chip.config chip.bytes (wanted request image chip) erases
  pub enough : least_needed request image chip erases ≤ allowance

-- Holds if the allowance covers the shortest identification and the scan (if `seal` is true), or doesn't cover the
-- identification of this chip and the scan (if `seal` is false).
pub record SealFits (further : Bool) (request : Request) (allowance : ℕ) (chip : Chip) (seal : Bool) : Type 0 where
  pub enough : seal ≡ true → 4 + scanned_sectors request chip.config.size ≤ allowance
  pub below : seal ≡ false → allowance < needed_to_identify further chip + scanned_sectors request chip.config.size

-- Holds if `restores` restores may have been run with the allowances `stops`. Each except the last was stopped.
pub record AreRestores (sectors : ℕ) (stops : List ℕ) (restores : ℕ) : Type 0 where
  pub stopped : (i : ℕ) → i + 1 < restores → slice_index stops i < most_of sectors
  pub ended : restores ≤ length stops → 4 + sectors ≤ slice_index stops (restores - 1)

-- Holds if `stops` has no entry for the last restore, or this entry is at least the sum of `left`, the shortest
-- identification (4 transactions) and the scan (`sectors` transactions).
abbrev pub FitsLastStop : (sectors : ℕ) → (stops : List ℕ) → (left restores : ℕ) → Type 0
FitsLastStop sectors stops left restores =
    restores ≤ length stops → left + (4 + sectors) ≤ slice_index stops (restores - 1)

pub record LeavesRefused (old new : BusState) (vault : VaultState) : Type 0 where
  pub same : IsSame old.chip new.chip
  pub latch : new.chip.latch ≡ true → old.chip.latch ≡ true
  pub unsent : new.sent ≡ old.sent
  pub unsealed : vault.sealed ≡ false

abbrev pub IsRehearsalRefusal : (old new : VaultState) → Refusal → Type 0
IsRehearsalRefusal old new refusal = SessionReturns old new refusal ⊎ ((new.sealed ≡ true) × IsRestoreRefusal refusal)

abbrev pub IsNoBusError : Refusal → Type 0
IsNoBusError refusal = list_any (λ n. refusal_number refusal == n) (12 ∷ 13 ∷ []) ≡ false

abbrev pub RehearsalErrors : (further : Bool) → Request → List ℕ → Chip → (old new : VaultState) → Refusal → Type 0
RehearsalErrors further request image chip old new Vault = CountsRefusal old new
RehearsalErrors further request image chip old new refusal = IsVerdict further request image chip refusal

abbrev pub IsRehearsedCode : What → Content → (code : ℕ) → Type 0
IsRehearsedCode what journal code = IsWrittenCode what journal code ⊎ IsSavedCode journal code

-- Holds if up to the state `before` only target bytes were programmed, as by a session, and after it only bytes that
-- the journal in the vault saves.
pub record ProgramsRehearsed (request : Request) (image : List ℕ) (old new : BusState)
    (vault : VaultState) : Type 0 where
  pub before : BusState
  pub session : ProgramsTargets request image old before vault
  pub restores : (journal : IsJournal vault.bytes) → ProgramsOnly (IsSavedByte journal.content) before new

-- The promises of a rehearsal on every bus.
pub record RehearsalAlways (request : Request) (image stops : List ℕ) (old new : BusState) (vault vault' : VaultState)
    (result : Result Rehearsal Refusal) : Type 0 where
  pub nature : SameNature old new
  pub allowed : IfOk result (λ r. new.allowances ≡ allowances_of stops (1 + r.restores) ++ old.allowances)
  pub tried : OnErr result (AllowsStops stops 1 (1 + max 1 (length stops)) old new)
  pub counts : IfOk result (IsRehearsal (length stops) vault')
  pub answers : IfErr result (IsRehearsalRefusal vault vault')
  pub names : IfErr result (NamesAddress vault')
  pub polled_ready : IfOk result (λ rehearsal. rehearsal.sealed ≡ true → new.polled_ready ≡ true)
  pub last_transaction : IfErr result (λ refusal. EndsAtError refusal new.history)
  pub unsent : vault'.sealed ≡ false → new.sent ≡ old.sent
  pub sends : vault'.sealed ≡ true → (journal : IsJournal vault'.bytes)
      × SendsSaved (IsRehearsedCode request.what journal.content) (1 + max 1 (length stops)) journal.content old new
  pub programs : vault'.sealed ≡ true → ProgramsRehearsed request image old new vault'
  pub writes : WritesStatusAtMost (most_status_writes request.what request.unlock + 2 * max 1 (length stops)) old new

-- The promises of a rehearsal on a modelled bus that is punctual.
pub record RehearsalModelled (request : Request) (image stops : List ℕ) (old new : BusState) (vault vault' : VaultState)
    (result : Result Rehearsal Refusal) : Type 0 where
  pub wears : (s : ℕ) → is_touched old.chip.bytes (wanted request image old.chip) s ≡ false → new.worn s ≡ old.worn s
  pub refuses : OnErr result (LeavesRefused old new vault')
  pub errors : IfErr result (RehearsalErrors old.further request image old.chip vault vault')
  pub accepts : vault'.sealed ≡ true → IsAccepted old.further request image old.chip
  pub saves : vault'.sealed ≡ true
      → JournalSaves (header_of old.chip) old.chip.bytes
      (is_touched old.chip.bytes (wanted request image old.chip)) vault'.bytes
  pub ended : most_of (old.chip.config.size / 4096) ≤ first_allowance stops
      → IfOk result (λ rehearsal. rehearsal.ended ≡ true)
  pub stopped : IfOk result (λ rehearsal. rehearsal.ended ≡ true
      → CanEnd old.further request image (first_allowance stops) old.chip)
  pub seal : IfOk result (λ rehearsal. SealFits old.further request (first_allowance stops) old.chip rehearsal.sealed)
  pub restores : IfOk result (λ rehearsal. rehearsal.sealed ≡ true
      → AreRestores (sector_count (is_touched old.chip.bytes (wanted request image old.chip))) (drop 1 stops)
      rehearsal.restores)
  pub latch : IfOk result (λ r. r.restores ≤ (if r.ended then 1 else 0) → new.chip.latch ≡ true → old.chip.latch ≡ true)
  pub last : IfOk result (λ rehearsal. rehearsal.sealed ≡ true
      → FitsLastStop (sector_count (is_touched old.chip.bytes (wanted request image old.chip))) (drop 1 stops)
      new.left rehearsal.restores)
