-- File faults. A file is known (`IsKnownFile`) if the files obey their contract and no vault or log in it is borrowed.
use Rattle.std.specs.Prelude.{◌≡◌, ◌≢◌, ◌<◌, ◌+◌, ◌⊎◌, ℕ, List, None, length}
use Rattle.nor_request.specs.declared.refusal.Refusal.TheVariants.{Memory}
use Rattle.nor_args.specs.Text.{Text}
use Rattle.nor_files.specs.Calls.{ReadsFile}
use Rattle.nor_files.specs.Files.{View}
use Rattle.nor_files.specs.Files.Failure.{Busy, There, Unheld, Unmade, Unread, Unwritten}
use Rattle.nor_files.specs.declared.store.LockFault.{LockFault}
use Rattle.nor_files.specs.declared.store.LockFault.TheVariants as why
use Rattle.nor_console.specs.Stored.{Happens, IsRead}
use Rattle.nor_console.specs.declared.messages.Fault.{Fault}
use Rattle.nor_console.specs.declared.messages.Fault.TheVariants as end
use Rattle.nor_console.specs.declared.messages.FileFault.TheVariants as file

abbrev pub IsUnreadFault : Text → Fault → Type 0
IsUnreadFault name (end.Refused refusal) = refusal ≡ Memory
IsUnreadFault name (end.File file.Read of cause) = of.now ≡ name
IsUnreadFault name _ = ⊥

abbrev pub IsUnmadeFault : Text → Fault → Type 0
IsUnmadeFault name (end.File file.Write of cause) = of.now ≡ name
IsUnmadeFault name _ = ⊥

abbrev pub IsNotLocked : LockFault → Text → Fault → Type 0
IsNotLocked (why.Unread error) name fault = IsUnreadFault name fault
IsNotLocked why.Unheld name (end.File file.Write of cause) = of.now ≡ name
IsNotLocked why.Busy name (end.File file.Taken of cause) = of.now ≡ name
IsNotLocked _ name _ = ⊥

-- Holds if reading at most `most` bytes of the named file may fail with this fault.
abbrev pub IsReadingFault : View → Text → ℕ → Fault → Type 0
IsReadingFault view name most (end.Refused refusal) = refusal ≡ Memory
IsReadingFault view name most (end.File file.Read of cause) =
    (of.now ≡ name) × (ReadsFile name most None view ⊎ Happens view (Unread name))
IsReadingFault view name most _ = ⊥

-- Holds if this is file fault 1 with `name`, and this file has more than `most` bytes or isn't known (`IsKnownFile`).
abbrev pub IsTooLong : View → Text → ℕ → Fault → Type 0
IsTooLong view name most (end.File file.Read of cause) =
    (of.now ≡ name) × ((bytes : List ℕ) × IsRead view name (most + 1) bytes × (most < length bytes))
IsTooLong view name most _ = ⊥

-- Holds if reading a chip's file, which must have `len` bytes unless it is missing, may fail with this fault.
abbrev pub IsOpeningFault : View → Text → ℕ → Fault → Type 0
IsOpeningFault view name len (end.Refused refusal) = refusal ≡ Memory
IsOpeningFault view name len (end.File file.Read of cause) = (of.now ≡ name) × Happens view (Unread name)
IsOpeningFault view name len (end.File file.Length of cause) =
    (of.now ≡ name) × ((bytes : List ℕ) × IsRead view name (len + 1) bytes × (length bytes ≢ len))
IsOpeningFault view name len _ = ⊥

-- Holds if locking and reading a chip's file, which must have `len` bytes, may fail with this fault.
abbrev pub IsLockingFault : View → Text → ℕ → Fault → Type 0
IsLockingFault view name len (end.File file.Read of cause) =
    (of.now ≡ name) × (ReadsFile name (len + 1) None view ⊎ Happens view (Unread name))
IsLockingFault view name len (end.File file.Write of cause) =
    (of.now ≡ name) × (Happens view (Unheld name) ⊎ Happens view (Unwritten name))
IsLockingFault view name len (end.File file.Taken of cause) = (of.now ≡ name) × Happens view (Busy name)
IsLockingFault view name len fault = IsOpeningFault view name len fault

abbrev pub IsSharingFault : View → Text → ℕ → Fault → Type 0
IsSharingFault view name most (end.File file.Write of cause) = (of.now ≡ name) × Happens view (Unheld name)
IsSharingFault view name most (end.File file.Taken of cause) = (of.now ≡ name) × Happens view (Busy name)
IsSharingFault view name most fault = IsReadingFault view name most fault

-- Holds if creating or truncating the file of this name may fail with this fault.
abbrev pub IsMaking : View → Text → Fault → Type 0
IsMaking view name (end.Refused refusal) = refusal ≡ Memory
IsMaking view name (end.File file.Write of cause) = (of.now ≡ name) × Happens view (Unmade name)
IsMaking view name (end.File file.Exists of cause) = (of.now ≡ name) × Happens view (There name)
IsMaking view name (end.File file.Taken of cause) = (of.now ≡ name) × Happens view (Busy name)
IsMaking view name _ = ⊥
