-- A change of SRP0 (`--wp-enable`, `--wp-disable`) over any bus.
use Rattle.std.specs.Prelude.{◌≡◌, ◌≢◌, ◌≤◌, ◌+◌, ◌*◌, ◌/◌, ◌%◌, ◌==◌, ◌&&◌, ◌⊎◌, ℕ, Bool, true, false, List, [], ◌∷◌}
use Rattle.std.specs.Prelude.{◌++◌, Option, None, Some, Result, Ok, Err, codes, slice_index, if◌then◌else◌}
use Rattle.nor_model.specs.Bus.{BusState}
use Rattle.nor_model.specs.History.{EndsBusy, EndsStopped, begins_with, last_reply}
use Rattle.nor_model.specs.PolledReady.{is_poll}
use Rattle.nor_driver.specs.Limits.{SendsExactly, SendsWithin, writing}
use Rattle.nor_driver.specs.Reads.{ReadsStatus2}
use Rattle.nor_driver.specs.Waits.{Waits}
use Rattle.nor_driver.specs.declared.waits.Waited.{Waited}
use Rattle.nor_probe.specs.declared.probes.Found.{Found}
use Rattle.nor_probe.specs.declared.table.ChipName.{ChipName}
use Rattle.nor_request.specs.Texts.{hex_digits}
use Rattle.nor_request.specs.declared.refusal.Refusal.{Refusal}
use Rattle.nor_request.specs.declared.refusal.Refusal.TheVariants.{NoProtection, StatusLocked, Stopped, Timeout}
use Rattle.nor_console.specs.AnswerLines.{found_line}
use Rattle.nor_console.specs.Lines.{line}
use Rattle.nor_console.specs.Printing.{Prints}
use Rattle.nor_console.specs.declared.messages.Fault.{Fault}
use Rattle.nor_console.specs.declared.messages.Fault.TheVariants as end
use Rattle.nor_jobs.specs.Finding.{FailsToFind, HasIdentified}
use Rattle.board_jobs.specs.Sends.{KeepsSent}
use Rattle.board_jobs.specs.declared.chip_faults.JobFault.{JobFault}
use Rattle.board_jobs.specs.declared.chip_faults.JobFault.TheVariants as ended
use Rattle.board_jobs.specs.declared.status_lock.LockChange.{LockChange}

abbrev pub shows_srp0 : (one : ℕ) → Bool
shows_srp0 one = one / 128 == 1

-- Status 1 in a status write: `one`, but with this value of SRP0, and with BUSY and WEL (bits 0 and 1) clear.
abbrev pub one_with : (srp0 : Bool) → (one : ℕ) → ℕ
one_with srp0 one = (if srp0 then 128 else 0) + one % 128 / 4 * 4

-- The two bytes of a status write that changes only SRP0, status 1 first. SUS (bit 7 of status 2) is clear.
abbrev pub bytes_with : (srp0 : Bool) → (before : List ℕ) → List ℕ
bytes_with srp0 before = one_with srp0 (slice_index before 0) ∷ slice_index before 1 % 128 ∷ []

abbrev pub sets_srp0 : (srp0 : Bool) → (before : List ℕ) → (one two : ℕ) → Bool
sets_srp0 srp0 before one two =
    one == one_with srp0 (slice_index before 0) && two == slice_index before 1 % 128

-- Holds if the status bytes `after` have this value of SRP0, and otherwise the non-volatile bits of `before`.
pub record HasOnlySrp0 (srp0 : Bool) (before after : List ℕ) : Type 0 where
  pub one : slice_index after 0 / 4 * 4 ≡ one_with srp0 (slice_index before 0)
  pub two : slice_index after 1 % 128 ≡ slice_index before 1 % 128

-- Holds if the chip was polled until it was ready, status 2 was then read, and `bytes` are status 1 and status 2. No
-- modifying command was sent.
pub record ReadsStatus (old new : BusState) (bytes : List ℕ) : Type 0 where
  pub polled : BusState
  pub waited : Waited
  pub waits : Waits old polled waited
  pub second : ReadsStatus2 polled new (slice_index bytes 1)
  pub first : slice_index bytes 0 ≡ waited.status1
  pub one_replied : last_reply is_poll new.history ≡ slice_index bytes 0 ∷ []
  pub two_replied : last_reply (begins_with 0x35) new.history ≡ slice_index bytes 1 ∷ []
  pub kept : KeepsSent old new

-- Holds if one status write was sent, which changes only SRP0, and the status registers were then read as `after`.
pub record WritesSrp0 (srp0 : Bool) (before after : List ℕ) (old new : BusState) : Type 0 where
  pub wrote : BusState
  pub within : SendsWithin (writing (sets_srp0 srp0 before) 1) old wrote
  pub exactly : SendsExactly 0 0 1 old wrote
  pub read : ReadsStatus wrote new after

-- Holds if SRP0 has this value in the end. If SRP0 had this value before, nothing was sent, and `after` is `None`.
-- Otherwise SRP0 was written, and `after` has the other non-volatile bits of `before`.
abbrev pub IsSet : (srp0 : Bool) → (before : List ℕ) → (after : Option (List ℕ)) → (old new : BusState) → Type 0
IsSet srp0 before None old new = (shows_srp0 (slice_index before 0) ≡ srp0) × (new ≡ old)
IsSet srp0 before (Some after) old new =
    (shows_srp0 (slice_index before 0) ≢ srp0) × WritesSrp0 srp0 before after old new × HasOnlySrp0 srp0 before after

-- Holds if the chip has known block protection and SRP1 (bit 0 of status 2) clear, and SRP0 has this value in the end.
pub record HasSetSrp0 (named : Option ChipName) (srp0 : Bool) (old new : BusState) (change : LockChange) : Type 0 where
  pub found : BusState
  pub read : BusState
  pub identified : HasIdentified named old found (Ok change.found)
  pub known : change.found.scheme ≡ true
  pub before : ReadsStatus found read change.before
  pub open_to : slice_index change.before 1 % 2 ≡ 0
  pub set : IsSet srp0 change.before change.after read new

-- Holds if SRP1 was read as clear and SRP0 with the other value, and then no modifying command was sent except write
-- enables and at most one status write, which changes only SRP0.
pub record SendsSrp0 (srp0 : Bool) (old new : BusState) : Type 0 where
  pub read : BusState
  pub before : List ℕ
  pub kept : KeepsSent old read
  pub one : last_reply is_poll read.history ≡ slice_index before 0 ∷ []
  pub two : last_reply (begins_with 0x35) read.history ≡ slice_index before 1 ∷ []
  pub open_to : slice_index before 1 % 2 ≡ 0
  pub differs : shows_srp0 (slice_index before 0) ≢ srp0
  pub within : SendsWithin (writing (sets_srp0 srp0 before) 1) read new

abbrev pub SendsLock : (srp0 : Bool) → (old new : BusState) → Type 0
SendsLock srp0 old new = KeepsSent old new ⊎ SendsSrp0 srp0 old new

-- Holds for error 6 (unknown block protection), 9 (SRP1 is set), 12 (the bus stopped) or 13 (the chip stayed busy).
abbrev pub FailsFound : Found → (old new : BusState) → Refusal → Type 0
FailsFound chip old new NoProtection = (chip.scheme ≡ false) × (new ≡ old)
FailsFound chip old new StatusLocked = (bytes : List ℕ) × ReadsStatus old new bytes × (slice_index bytes 1 % 2 ≡ 1)
FailsFound chip old new Stopped = EndsStopped new.history
FailsFound chip old new (Timeout address) = EndsBusy new.history
FailsFound chip old new _ = ⊥

pub record FailsToSet (named : Option ChipName) (old new : BusState) (refusal : Refusal) : Type 0 where
  pub chip : Found
  pub found : BusState
  pub identified : HasIdentified named old found (Ok chip)
  pub fails : FailsFound chip found new refusal

-- Holds if the status bytes `sent` were written, and the bytes `after`, which were read back, differ from `sent` in a
-- non-volatile bit.
pub record HasNotSet (named : Option ChipName) (srp0 : Bool) (old new : BusState) (sent after : List ℕ) : Type 0 where
  pub chip : Found
  pub found : BusState
  pub read : BusState
  pub before : List ℕ
  pub identified : HasIdentified named old found (Ok chip)
  pub status : ReadsStatus found read before
  pub writes : WritesSrp0 srp0 before after read new
  pub sends : sent ≡ bytes_with srp0 before
  pub differs : HasOnlySrp0 srp0 before after → ⊥

-- Holds if a change of SRP0 failed with this fault. `NotStored` is chip fault 3.
abbrev pub FailsLock : Option ChipName → (srp0 : Bool) → (old new : BusState) → JobFault → Type 0
FailsLock named srp0 old new (ended.Fault fault) = FailsToFind named old new fault
    ⊎ ((refusal : Refusal) × FailsToSet named old new refusal × (fault ≡ end.Refused refusal))
FailsLock named srp0 old new (ended.NotStored sent after) = HasNotSet named srp0 old new sent after
FailsLock named srp0 old new _ = ⊥

abbrev pub registers_line : (label bytes : List ℕ) → List ℕ
registers_line label bytes = line (label ∷ codes ": 0x" ∷ hex_digits 2 (slice_index bytes 0) ∷ codes " 0x"
    ∷ hex_digits 2 (slice_index bytes 1) ∷ [])

abbrev pub registers_lines : (before : List ℕ) → (after : Option (List ℕ)) → List ℕ
registers_lines before (Some after) =
    registers_line (codes "Status before") before ++ registers_line (codes "Status now") after
registers_lines before None = registers_line (codes "Status (unchanged)") before

abbrev pub meaning_lines : (srp0 : Bool) → List ℕ
meaning_lines true =
    line (codes "SRP0 is set: while WP# is low, the status and the protected range can't be changed." ∷ [])
    ++ line (codes "To clear SRP0, connect WP# to the supply, and use --wp-disable." ∷ [])
meaning_lines false =
    line (codes "SRP0 is clear: the status can be changed. The protected range is as before." ∷ [])
    ++ line (codes "To set SRP0 again, also before a restore from a journal that has it set, use --wp-enable." ∷ [])

abbrev pub lock_lines : (srp0 : Bool) → LockChange → List ℕ
lock_lines srp0 change =
    found_line change.found ++ (registers_lines change.before change.after ++ meaning_lines srp0)

abbrev pub EndsLock : Option ChipName → (srp0 : Bool) → (old new : BusState) → Result LockChange JobFault → Type 0
EndsLock named srp0 old new (Ok change) = HasSetSrp0 named srp0 old new change
EndsLock named srp0 old new (Err fault) = FailsLock named srp0 old new fault

abbrev pub HasPrintedLock : (srp0 : Bool) → Result LockChange JobFault → (out out' : Option (List ℕ)) → Type 0
HasPrintedLock srp0 (Ok change) out out' = Prints (λ text. text ≡ lock_lines srp0 change) out out'
HasPrintedLock srp0 (Err fault) out out' = ⊥

-- Holds after `--wp-enable` or `--wp-disable`. With exit status 0, SRP0 has this value, and the lines were printed.
pub record HasRunLock (named : Option ChipName) (srp0 : Bool) (old new : BusState) (out out' : Option (List ℕ))
    (status : ℕ) : Type 0 where
  pub outcome : Result LockChange JobFault
  pub ends : EndsLock named srp0 old new outcome
  pub sends : SendsLock srp0 old new
  pub few : status ≤ 1
  pub printed : status ≡ 0 → HasPrintedLock srp0 outcome out out'
