-- The result of `read_out` and of its steps: the bytes that they append to a vault, and the meaning of their errors.
use Rattle.std.specs.Prelude.{◌≡◌, ◌≤◌, ◌<◌, ◌+◌, ◌*◌, ◌/◌, ◌++◌, ℕ, true, if◌then◌else◌, ⊤}
use Rattle.std.specs.Prelude.{Option, Result, Ok, Err, IfOk, IfErr, OnOk, List, length, slice_index}
use Rattle.nor_model.specs.Exchange.{Exchange}
use Rattle.nor_model.specs.History.{Continues}
use Rattle.nor_model.specs.Bus.{BusState}
use Rattle.nor_driver.specs.ReadBack.{sector_read, bytes_read, AddsSectorReads}
use Rattle.nor_driver.specs.OnlyReads.{OnlyReads, Rested, RanOut, HasStopped, IsOpen}
use Rattle.nor_journal.specs.Vault.{VaultState, PutRefused, Refused, Accepted}
use Rattle.nor_driver.specs.ReadsInTurn.{HasOnlyRead}
use Rattle.nor_layout.specs.declared.ranges.Span.{Span}
use Rattle.nor_geometry.specs.Below.{count_below}
use Rattle.nor_layout.specs.Sectors.{includes, has_in_sector, sectors_included, AreOfSector, FitsInto}
use Rattle.nor_probe.specs.declared.table.ChipName.{ChipName}
use Rattle.nor_probe.specs.Found.{IsConfigOf}
use Rattle.nor_probe.specs.Replied.{IsFoundBy}
use Rattle.nor_request.specs.declared.refusal.Refusal.{Refusal}
use Rattle.nor_request.specs.declared.refusal.Refusal.TheVariants.{RegionOutside, Stopped, Output}
use Rattle.nor_request.specs.declared.report.Report.{Report}
use Rattle.nor_request.specs.Errors.{EndsAtError}
use Rattle.nor_read.specs.Finding.{IsPassed, IsTaken, ReportsPart, ReportsReads, IsFindRefusal, ReadingErrors, most_read}

abbrev pub copied : Option (List Span) → (ℕ → ℕ) → ℕ → ℕ
copied included content a = if includes included a then content a else 255

pub record Grows (count : ℕ) (old new : VaultState) : Type 0 where
  pub bytes : List ℕ
  pub long : length bytes ≡ count
  pub grown : new.bytes ≡ old.bytes ++ bytes

-- Holds if the first `count` bytes of the copy of a chip were appended to the vault.
pub record Copies (included : Option (List Span)) (content : ℕ → ℕ) (count : ℕ) (old new : VaultState) : Type 0 where
  pub bytes : List ℕ
  pub long : length bytes ≡ count
  pub grown : new.bytes ≡ old.bytes ++ bytes
  pub right : (a : ℕ) → a < count → slice_index bytes a ≡ copied included content a

-- Holds if only successful reads of sectors follow `old`, among them one of each sector with an included address below
-- `count`. A faithful (`telling`) vault has `count` more bytes: at each included address the byte in the last of these
-- replies for its sector, and FFh at all other addresses.
pub record CopiesReplies (included : Option (List Span)) (count : ℕ) (old new : List Exchange)
    (vault vault' : VaultState) : Type 0 where
  pub reads : AddsSectorReads old new
  pub whole : (a : ℕ) → a < count → includes included a ≡ true → length (sector_read reads.later a) ≡ 4096
  pub copy : vault.telling ≡ true → Copies included (bytes_read reads.later) count vault vault'

-- Holds if `CopiesReplies` holds since some history `before`, which continues `old`.
abbrev pub EndsCopying : Option (List Span) → (count : ℕ) → (old new : List Exchange) → (vault vault' : VaultState)
    → Type 0
EndsCopying included count old new vault vault' =
    (before : List Exchange) × Continues old before × CopiesReplies included count before new vault vault'

-- Holds if `CopiesReplies` holds for some number of bytes and some history `reached`, which `new` continues.
abbrev pub CopiesBegun : Option (List Span) → (old new : List Exchange) → (vault vault' : VaultState) → Type 0
CopiesBegun included old new vault vault' =
    (count : ℕ) × (reached : List Exchange) × Continues reached new
    × CopiesReplies included count old reached vault vault'

abbrev pub EndsCopyingBegun : Option (List Span) → (old new : List Exchange) → (vault vault' : VaultState) → Type 0
EndsCopyingBegun included old new vault vault' =
    (before : List Exchange) × Continues old before × CopiesBegun included before new vault vault'

-- Holds if all bytes that a faithful vault accepted during the call are those of the replies (`CopiesReplies`): the
-- whole copy after success, its first `written` bytes after error 19, and some number of its first bytes, possibly
-- none, after another error.
abbrev pub HasCopiedReplies : Option (List Span) → (old new : List Exchange) → (vault vault' : VaultState)
    → Result Report Refusal → Type 0
HasCopiedReplies included old new vault vault' (Ok report) =
    EndsCopying included report.found.size old new vault vault'
HasCopiedReplies included old new vault vault' (Err (Output written)) =
    EndsCopying included written old new vault vault'
HasCopiedReplies included old new vault vault' (Err refusal) = EndsCopyingBegun included old new vault vault'

-- Holds if the vault refused nothing and, if it is faithful (`telling`), accepted `count` bytes.
pub record TakesWhole (count : ℕ) (old new : VaultState) : Type 0 where
  pub accepted : Accepted old new
  pub grows : old.telling ≡ true → Grows count old new

-- Holds if the vault refused one piece (65,536 bytes) of the copy. A faithful (`telling`) vault accepted `written`
-- bytes in all, including the accepted first bytes of the refused piece.
pub record TakesPart (written : ℕ) (old new : VaultState) : Type 0 where
  pub refused : Refused old new
  pub grows : old.telling ≡ true → Grows written old new

-- Holds if `read_out` may return this error and leave the vault in the state `vault'`.
abbrev pub IsReadRefusal : (vault vault' : VaultState) → Refusal → Type 0
IsReadRefusal vault vault' (Output written) = TakesPart written vault vault'
IsReadRefusal vault vault' RegionOutside = Accepted vault vault'
IsReadRefusal vault vault' refusal = IsFindRefusal refusal × Accepted vault vault'

pub record ReadOutAlways (named : Option ChipName) (included : Option (List Span)) (old new : BusState)
    (vault vault' : VaultState) (result : Result Report Refusal) : Type 0 where
  pub only_reads : OnlyReads (most_read 16777216) old new
  pub reports : IfOk result (ReportsPart named old.further)
  pub fits : IfOk result (λ report. FitsInto included report.found.size)
  pub identified : IfOk result (λ report. IsFoundBy old.further new.history report.found)
  pub whole : IfOk result (λ report. TakesWhole report.found.size vault vault')
  pub replied : HasCopiedReplies included old.history new.history vault vault' result
  pub refuses : IfErr result (IsReadRefusal vault vault')
  pub last_transaction : IfErr result (λ refusal. EndsAtError refusal new.history)
  pub polled_ready : OnOk result (new.polled_ready ≡ true)

pub record ReadOutHonest (named : Option ChipName) (included : Option (List Span)) (old new : BusState)
    (result : Result Report Refusal) : Type 0 where
  -- After success the report counts the probe, and one read for each sector with an included address.
  pub reports : IfOk result (λ report. ReportsReads (sectors_included included report.found.size) old new report)
  pub errors : IfErr result (ReadingErrors (most_read 16777216) named old new)

-- Holds if `read_out` may return error 19 with the number `written` on a modelled bus.
pub record BreaksOff (named : Option ChipName) (included : Option (List Span)) (written : ℕ) (old : BusState)
    (vault vault' : VaultState) : Type 0 where
  pub taken : IsTaken old.further named included old.chip.config
  pub within : written ≤ old.chip.config.size
  pub copy : vault.telling ≡ true → Copies included old.chip.bytes written vault vault'

-- Holds for error 5, 12 or 19 if `read_out` may return it on a modelled bus. Holds for all other errors.
abbrev pub ReadOutErrors : Option ChipName → Option (List Span) → (old new : BusState) → (vault vault' : VaultState)
    → Refusal → Type 0
ReadOutErrors named included old new vault vault' RegionOutside = IsPassed old.further named included old.chip.config
ReadOutErrors named included old new vault vault' Stopped = RanOut (most_read old.chip.config.size) old new
ReadOutErrors named included old new vault vault' (Output written) = BreaksOff named included written old vault vault'
ReadOutErrors named included old new vault vault' _ = ⊤

pub record ReadOutModelled (named : Option ChipName) (included : Option (List Span)) (old new : BusState)
    (vault vault' : VaultState) (result : Result Report Refusal) : Type 0 where
  pub only_reads : OnlyReads (most_read old.chip.config.size) old new
  pub config : IfOk result (λ report. IsConfigOf old.further old.chip.config report.found)
  pub copy : IfOk result (λ report. vault.telling ≡ true
      → Copies included old.chip.bytes old.chip.config.size vault vault')
  pub errors : IfErr result (ReadOutErrors named included old new vault vault')

-- Holds if the first `count` of the `bytes` are the copy of the addresses from `from` on, made of the last replies in
-- the history `new` to reads of their sectors. Below `from`, `earlier` and `new` have the same last replies.
pub record CopiesFrom (included : Option (List Span)) (from count : ℕ) (bytes : List ℕ) (earlier new : List Exchange)
    : Type 0 where
  pub below : (a : ℕ) → a < from → sector_read new a ≡ sector_read earlier a
  pub whole : (a : ℕ) → from ≤ a → a < from + count → includes included a ≡ true → length (sector_read new a) ≡ 4096
  pub right : (i : ℕ) → i < count → slice_index bytes i ≡ copied included (bytes_read new) (from + i)

-- Holds after one sector of the copy of a chip was put into `bytes`. Only a sector with an included address is read.
pub record ReadsPart (included : Option (List Span)) (sector : ℕ) (bytes : List ℕ) (old new : BusState)
    (reads : ℕ) : Type 0 where
  pub counted : reads ≡ (if has_in_sector (includes included) sector then 1 else 0)
  pub honest_reads : HasOnlyRead reads old new
  pub only_sectors : AddsSectorReads old.history new.history
  pub replied : (earlier : List Exchange)
      → CopiesFrom included (4096 * sector) 4096 bytes earlier (only_sectors.later ++ earlier)
  pub right : old.honest ≡ true → old.chip.busy ≡ 0 → 4096 * (sector + 1) ≤ old.chip.config.size
      → AreOfSector (copied included old.chip.bytes) sector bytes

-- Holds after the first `n` of the sixteen sectors of one piece (65,536 bytes) were copied to `bytes`.
pub record ReadsPiece (included : Option (List Span)) (piece n : ℕ) (bytes : List ℕ) (old new : BusState)
    (reads : ℕ) : Type 0 where
  pub counted : count_below (16 * piece + n) (has_in_sector (includes included))
      ≡ count_below (16 * piece) (has_in_sector (includes included)) + reads
  pub most : reads ≤ n
  pub honest_reads : HasOnlyRead reads old new
  pub only_sectors : AddsSectorReads old.history new.history
  pub replied : (earlier : List Exchange)
      → CopiesFrom included (65536 * piece) (4096 * n) bytes earlier (only_sectors.later ++ earlier)
  pub right : old.honest ≡ true → old.chip.busy ≡ 0 → 65536 * (piece + 1) ≤ old.chip.config.size
      → (i : ℕ) → i < 4096 * n → slice_index bytes i ≡ copied included old.chip.bytes (65536 * piece + i)

-- Holds if the vault has `count` more bytes, which are the first bytes of the copy of a chip if `known` holds.
pub record CopiesIf (known : Type 0) (included : Option (List Span)) (content : ℕ → ℕ) (count : ℕ)
    (old new : VaultState) : Type 0 where
  pub grows : Grows count old new
  pub right : known → (a : ℕ) → a < count → slice_index grows.bytes a ≡ copied included content a

-- Holds after the first `n` pieces (of sixteen sectors each) of the copy of a chip were appended to the vault.
pub record ReadsPieces (included : Option (List Span)) (size n : ℕ) (old new : BusState) (vault vault' : VaultState)
    (reads : ℕ) : Type 0 where
  pub counted : reads ≡ count_below (16 * n) (has_in_sector (includes included))
  pub most : reads ≤ 16 * n
  pub honest_reads : HasOnlyRead reads old new
  pub accepted : Accepted vault vault'
  pub replied : CopiesReplies included (65536 * n) old.history new.history vault vault'
  pub copy : vault.telling ≡ true → CopiesIf (IsOpen size old) included old.chip.bytes (65536 * n) vault vault'

-- Holds after the vault refused a piece of the copy. `written` is the number of bytes that a faithful vault accepted.
pub record BreaksCopy (included : Option (List Span)) (size written : ℕ) (old new : BusState)
    (vault vault' : VaultState) : Type 0 where
  pub rested : old.honest ≡ true → Rested old new
  pub within : written ≤ size
  pub took : TakesPart written vault vault'
  pub replied : CopiesReplies included written old.history new.history vault vault'
  pub copy : IsOpen size old → vault.telling ≡ true → Copies included old.chip.bytes written vault vault'

-- Holds if copying the chip may end with this error: 12 (the bus stopped) or 19 (the vault refused a piece).
abbrev pub CopyErrors : Option (List Span) → ℕ → (old new : BusState) → (vault vault' : VaultState) → Refusal → Type 0
CopyErrors included size old new vault vault' Stopped =
    HasStopped (size / 4096) old new × Accepted vault vault'
    × CopiesBegun included old.history new.history vault vault'
CopyErrors included size old new vault vault' (Output written) = BreaksCopy included size written old new vault vault'
CopyErrors included size old new vault vault' _ = ⊥

-- Holds if appending piece number `piece` (from 0) may return this error. `written` is 65,536 for each earlier piece,
-- plus the number of bytes of this piece that a faithful vault accepted.
abbrev pub PutErrors : ℕ → List ℕ → (old new : VaultState) → Refusal → Type 0
PutErrors piece bytes old new (Output written) =
    (kept : ℕ) × (written ≡ 65536 * piece + kept) × PutRefused old bytes kept new
PutErrors piece bytes old new _ = ⊥
