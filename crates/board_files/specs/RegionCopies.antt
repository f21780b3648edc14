-- The files of regions (`-i NAME:FILE`) after a read.
use Rattle.std.specs.Prelude.{◌≡◌, ◌<◌, ◌≤◌, ◌+◌, ◌-◌, ◌⊎◌, ◌&&◌, ℕ, All, Bool, true, false, List, [], ◌∷◌}
use Rattle.std.specs.Prelude.{Option, None, Some, drop, length, nat_le, take, ⊤, if◌then◌else◌}
use Rattle.std.specs.Borrow.{Bor}
use Rattle.std.specs.List.{Any}
use Rattle.nor_files.specs.Files.{FilesState, KeepsFile, View, is_lawful}
use Rattle.nor_layout.specs.declared.ranges.Span.{Span}
use Rattle.nor_args.specs.Text.{Text}
use Rattle.nor_args.specs.declared.job.Operation.{Operation}
use Rattle.nor_args.specs.declared.job.Task.{Task}
use Rattle.nor_args.specs.declared.job.Task.TheVariants as task
use Rattle.nor_console.specs.Files.{IsMaking, IsReadingFault, IsUnmadeFault}
use Rattle.nor_console.specs.Roles.{FailsApart}
use Rattle.nor_console.specs.Stored.{IsRead}
use Rattle.nor_console.specs.declared.messages.Fault.{Fault}
use Rattle.nor_console.specs.declared.causes.Cause.TheVariants as causes
use Rattle.nor_console.specs.declared.messages.Fault.TheVariants as end
use Rattle.nor_console.specs.declared.messages.FileFault.TheVariants as file
use Rattle.board_files.specs.RegionRoles.{FailsDistinct}
use Rattle.board_files.specs.declared.region_files.RegionFile.{RegionFile}

abbrev pub part_at : Span → List ℕ → List ℕ
part_at span bytes = take (span.last + 1 - span.first) (drop span.first bytes)

-- Holds if the region lies in `bytes`, and (if files obey their contract) the region's file has this part of `bytes`.
pub record IsCopied (bytes : List ℕ) (view : View) (region : RegionFile) : Type 0 where
  pub inside : region.span.last < length bytes
  pub same : is_lawful view ≡ true → view.seen region.file.now ≡ Some (part_at region.span bytes)

-- Holds if there are no regions, or the file `out` was read and each region's file has its part of `out` (`IsCopied`).
abbrev pub AreCopiedFrom : (out : Text) → List RegionFile → View → Type 0
AreCopiedFrom out [] view = ⊤
AreCopiedFrom out (first ∷ rest) view = (bytes : List ℕ) × IsRead view out 16777217 bytes
    × All (IsCopied bytes view) (first ∷ rest)

abbrev pub reads_out : (backup : Bool) → Task → Bool
reads_out false (task.Read file regions) = true
reads_out _ _ = false

abbrev pub AreCopiedBy : (backup : Bool) → Task → List RegionFile → View → Type 0
AreCopiedBy false (task.Read out regions) files view = AreCopiedFrom out.now files view
AreCopiedBy _ _ files view = ⊤

abbrev pub AreCopied : Operation → List RegionFile → View → Type 0
AreCopied operation files view = AreCopiedBy operation.is_backup operation.task files view

-- Holds if the output of a read is unchanged or files don't obey their contract. Always holds for another task.
abbrev pub KeepsOutput : Task → (old new : FilesState) → Type 0
KeepsOutput (task.Read out regions) old new = is_lawful old.view ≡ true → KeepsFile out.now old new
KeepsOutput _ old new = ⊤

abbrev pub part_if_inside : Span → List ℕ → Option (List ℕ)
part_if_inside span bytes = if nat_le span.first (span.last + 1) && nat_le (span.last + 1) (length bytes)
    then Some (part_at span bytes) else None

-- Holds for file fault 2 of the file `name`, which has a prefix of `bytes` if files obey their contract.
pub record IsWrittenPartly (name : Bor Text) (bytes : List ℕ) (after : View) (fault : Fault) : Type 0 where
  pub is : IsUnmadeFault name.now fault
  pub has : is_lawful after ≡ true → (kept : ℕ) × (after.seen name.now ≡ Some (take kept bytes))

abbrev pub FailsToWrite : Bor Text → (bytes : List ℕ) → (before after : View) → Fault → Type 0
FailsToWrite name bytes before after fault = IsMaking before name.now fault ⊎ IsWrittenPartly name bytes after fault

-- Holds for file fault 1 of the file `out`, if `bytes` end before the end of the region, or if the region ends before
-- its start.
pub record EndsInRegion (out : Bor Text) (region : RegionFile) (bytes : List ℕ) (fault : Fault) : Type 0 where
  pub is : fault ≡ end.File file.Read out causes.Unknown
  pub ends : region.span.first ≤ region.span.last + 1 → length bytes < region.span.last + 1

abbrev pub FailsToCopyRegion : (out : Bor Text) → (log : Option (Bor Text)) → (bytes : List ℕ) → RegionFile
    → (before after : View) → Fault → Type 0
FailsToCopyRegion out log bytes region before after fault = EndsInRegion out region bytes fault
    ⊎ (FailsApart before.nature log (Some region.file) fault
    ⊎ (FailsApart before.nature (Some out) (Some region.file) fault
    ⊎ FailsToWrite region.file (part_at region.span bytes) before after fault))

abbrev pub FailsAfterRead : (out : Bor Text) → (log : Option (Bor Text)) → List RegionFile → (before after : View)
    → Fault → Type 0
FailsAfterRead out log files before after fault = (bytes : List ℕ) × IsRead before out.now 16777217 bytes
    × (Any (λ region. FailsToCopyRegion out log bytes region before after fault) files
    ⊎ FailsDistinct before.nature files fault)

abbrev pub FailsToCopy : (out : Bor Text) → (log : Option (Bor Text)) → List RegionFile → (before after : View)
    → Fault → Type 0
FailsToCopy out log files before after fault =
    IsReadingFault before out.now 16777217 fault ⊎ FailsAfterRead out log files before after fault

abbrev pub FailsToCopyBy : (backup : Bool) → Task → (log : Option (Bor Text)) → List RegionFile
    → (before after : View) → Fault → Type 0
FailsToCopyBy false (task.Read out regions) log files before after fault =
    (¬ files ≡ []) × FailsToCopy out log files before after fault
FailsToCopyBy _ _ log files before after fault = ⊥
