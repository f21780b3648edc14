-- The target of a write or an erase, and the comparison of the whole chip with this target after the change.
use Rattle.std.specs.Prelude.{◌≡◌, ◌≢◌, ◌<◌, ◌⊎◌, ℕ, Bool, true, false, List, Option, None, Some, Result, Ok, Err}
use Rattle.std.specs.Prelude.{length, slice_index}
use Rattle.nor_model.specs.Bus.{BusState}
use Rattle.nor_journal.specs.Vault.{VaultState, new_vault}
use Rattle.nor_layout.specs.Ranges.{contains}
use Rattle.nor_layout.specs.Sectors.{ReachesPast, merged_byte}
use Rattle.nor_layout.specs.declared.ranges.Span.{Span}
use Rattle.nor_probe.specs.Known.{IsModelled}
use Rattle.nor_probe.specs.declared.table.ChipName.{ChipName}
use Rattle.nor_read.specs.Reading.{ReadOutAlways, ReadOutHonest, ReadOutModelled}
use Rattle.nor_request.specs.declared.refusal.Refusal.{Refusal}
use Rattle.nor_request.specs.declared.refusal.Refusal.TheVariants.{ImageSize, Memory, Output, RegionOutside}
use Rattle.nor_request.specs.declared.report.Report.{Report}
use Rattle.nor_console.specs.Readings.{HasVerified}
use Rattle.nor_console.specs.declared.answers.Answer.{Answer}
use Rattle.board_jobs.specs.declared.chip_faults.JobFault.{JobFault}
use Rattle.board_jobs.specs.declared.chip_faults.JobFault.TheVariants as ended

-- Holds if `read_out` had this result with a new faithful vault in memory, which then held `bytes`.
pub record HasReadToMemory (named : Option ChipName) (ranges : Option (List Span)) (old new : BusState)
    (bytes : List ℕ) (result : Result Report Refusal) : Type 0 where
  pub filled : VaultState
  pub always : ReadOutAlways named ranges old new (new_vault true) filled result
  pub honest : old.honest ≡ true → ReadOutHonest named ranges old new result
  pub modelled : IsModelled old → ReadOutModelled named ranges old new (new_vault true) filled result
  pub holds : bytes ≡ filled.bytes

-- Holds if the whole chip was read, and `target` has the bytes of `image` in `spans` and the chip's bytes elsewhere.
-- `image` and `target` are as long as the chip.
pub record IsMerged (named : Option ChipName) (spans : List Span) (image : List ℕ) (old new : BusState)
    (target : List ℕ) : Type 0 where
  pub chip : List ℕ
  pub report : Report
  pub read : HasReadToMemory named None old new chip (Ok report)
  pub whole : length image ≡ length chip
  pub long : length target ≡ length chip
  pub bytes : (a : ℕ) → a < length chip
      → slice_index target a ≡ merged_byte (contains spans) (slice_index image) (slice_index chip) a

-- Without ranges, holds if nothing was sent and `target` is `image`. With ranges, holds if `IsMerged` holds.
abbrev pub IsWholeTarget : Option ChipName → (ranges : Option (List Span)) → (image : List ℕ) → (old new : BusState)
    → (target : List ℕ) → Type 0
IsWholeTarget named None image old new target = (new ≡ old) × (target ≡ image)
IsWholeTarget named (Some spans) image old new target = IsMerged named spans image old new target

abbrev pub ranges_if : (compared : Bool) → Option (List Span) → Option (List Span)
ranges_if true ranges = ranges
ranges_if false ranges = None

abbrev pub IsUnfit : (size : ℕ) → List Span → (image : List ℕ) → Refusal → Type 0
IsUnfit size spans image (ImageSize chip len) = (chip ≡ size) × (len ≡ length image) × (length image ≢ size)
IsUnfit size spans image RegionOutside = ReachesPast (Some spans) size
IsUnfit size spans image _ = ⊥

-- The given error, but error 18 in place of error 19 (the vault refused bytes), because a vault in memory refuses bytes
-- only if memory runs out.
abbrev pub into_memory : Refusal → Refusal
into_memory (Output written) = Memory
into_memory refusal = refusal

-- Holds for error 4 if the chip that was read has another size than the image.
pub record IsOtherRead (named : Option ChipName) (image : List ℕ) (old new : BusState)
    (refusal : Refusal) : Type 0 where
  pub bytes : List ℕ
  pub report : Report
  pub read : HasReadToMemory named None old new bytes (Ok report)
  pub is : refusal ≡ ImageSize report.found.size (length image)
  pub differ : length image ≢ report.found.size

abbrev pub FailsInMemory : Option ChipName → (ranges : Option (List Span)) → (old new : BusState) → Refusal → Type 0
FailsInMemory named ranges old new refusal =
    (bytes : List ℕ) × (why : Refusal) × HasReadToMemory named ranges old new bytes (Err why)
    × (refusal ≡ into_memory why)

abbrev pub FailsToMerge : Option ChipName → (size : ℕ) → (ranges : Option (List Span)) → (image : List ℕ)
    → (old new : BusState) → Refusal → Type 0
FailsToMerge named size None image old new refusal = ⊥
FailsToMerge named size (Some spans) image old new refusal = ((new ≡ old) × IsUnfit size spans image refusal)
    ⊎ (FailsInMemory named None old new refusal ⊎ IsOtherRead named image old new refusal)

-- Holds if the comparison after a session found no difference. If the session failed or isn't compared, holds if
-- nothing was sent.
abbrev pub IsFollowed : (session : Result Answer Refusal) → (compared : Bool) → Option ChipName → (target : List ℕ)
    → (old new : BusState) → Type 0
IsFollowed (Ok found) true named target old new =
    (verified : Answer) × HasVerified named None target old new (Ok verified)
IsFollowed (Ok found) false named target old new = new ≡ old
IsFollowed (Err refusal) compared named target old new = new ≡ old

-- Holds if the session succeeded, and the comparison of the whole chip with the target failed with this fault.
abbrev pub FailsToFollow : (session : Result Answer Refusal) → (compared : Bool) → Option ChipName → (target : List ℕ)
    → (old new : BusState) → JobFault → Type 0
FailsToFollow (Ok found) true named target old new (ended.NotCompared refusal) =
    HasVerified named None target old new (Err refusal)
FailsToFollow _ compared named target old new fault = ⊥
