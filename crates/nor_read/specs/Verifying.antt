-- The result of `verify`, which compares a chip with an image.
use Rattle.std.specs.Prelude.{◌≡◌, ◌≢◌, ◌≤◌, ◌<◌, ◌+◌, ◌*◌, ◌/◌, ◌++◌, ◌&&◌, ℕ, Bool, true, nat_lt, if◌then◌else◌, ⊤}
use Rattle.std.specs.Prelude.{Option, Result, Ok, Err, IfOk, IfErr, OnOk, List, length, slice_index, MatchOption}
use Rattle.nor_model.specs.declared.config.Config.{Config}
use Rattle.nor_model.specs.Chip.{Chip}
use Rattle.nor_model.specs.Exchange.{Exchange}
use Rattle.nor_model.specs.History.{Continues, EndsReading}
use Rattle.nor_model.specs.Bus.{BusState}
use Rattle.nor_driver.specs.OnlyReads.{OnlyReads, RanOut, IsOpen}
use Rattle.nor_driver.specs.ReadsInTurn.{HasOnlyRead}
use Rattle.nor_driver.specs.ReadBack.{sector_read, bytes_read, AddsSectorReads, EndsReadBack, EndsReadOther}
use Rattle.nor_layout.specs.declared.ranges.Span.{Span}
use Rattle.nor_geometry.specs.Below.{count_below}
use Rattle.nor_layout.specs.Sectors.{includes, has_in_sector, sectors_included, FitsInto}
use Rattle.nor_probe.specs.declared.table.ChipName.{ChipName}
use Rattle.nor_probe.specs.Found.{IsConfigOf}
use Rattle.nor_probe.specs.Replied.{IsFoundBy}
use Rattle.nor_request.specs.declared.refusal.Refusal.{Refusal}
use Rattle.nor_request.specs.declared.refusal.Refusal.TheVariants.{ImageSize, RegionOutside, Stopped, Mismatch}
use Rattle.nor_request.specs.declared.report.Report.{Report}
use Rattle.nor_request.specs.Errors.{EndsAtError}
use Rattle.nor_read.specs.declared.verifying.Compared.{Compared}
use Rattle.nor_read.specs.Finding.{IsNamed, IsPassed, IsTaken, most_read}
use Rattle.nor_read.specs.Finding.{ReportsPart, ReportsReads, IsFindRefusal, ReadingErrors}

-- Holds if `content` equals the image at each included address from `from` up to but not including `to`.
abbrev pub AgreeIn : Option (List Span) → List ℕ → (ℕ → ℕ) → (from to : ℕ) → Type 0
AgreeIn included image content from to =
    (a : ℕ) → from ≤ a → a < to → includes included a ≡ true → slice_index image a ≡ content a

-- Holds if `address` is the first included address, from `from` and below `to`, where `content` differs from the image.
pub record IsFirstOther (included : Option (List Span)) (image : List ℕ) (content : ℕ → ℕ)
    (from to address : ℕ) : Type 0 where
  pub above : from ≤ address
  pub below : address < to
  pub is_included : includes included address ≡ true
  pub differs : slice_index image address ≢ content address
  pub before : AgreeIn included image content from address

pub record IsOtherSize (further : Bool) (named : Option ChipName) (image : List ℕ) (config : Config)
    (chip_size image_size : ℕ) : Type 0 where
  pub is : IsNamed further named config
  pub of_chip : chip_size ≡ config.size
  pub of_image : image_size ≡ length image
  pub differ : length image ≢ config.size

-- Holds if `verify` may return error 14 with `address` on a modelled bus: the first included address with a difference.
pub record IsMismatch (further : Bool) (named : Option ChipName) (included : Option (List Span)) (image : List ℕ)
    (chip : Chip) (address : ℕ) : Type 0 where
  pub taken : IsTaken further named included chip.config
  pub whole : length image ≡ chip.config.size
  pub first : IsFirstOther included image chip.bytes 0 chip.config.size address

abbrev pub IsVerifyRefusal : Refusal → Type 0
IsVerifyRefusal (ImageSize chip len) = ⊤
IsVerifyRefusal RegionOutside = ⊤
IsVerifyRefusal (Mismatch address) = ⊤
IsVerifyRefusal refusal = IsFindRefusal refusal

-- Holds if, since `old`, the sector of `address` was read, and after that read only reads of sectors were sent.
pub record HasReadAt (address : ℕ) (old new : List Exchange) : Type 0 where
  pub at : List Exchange
  pub read : EndsReading address at
  pub since : Continues old read.earlier
  pub later : AddsSectorReads at new

-- Holds if `verify` may leave the history `new` with this error. After error 14, the last transactions read sectors.
abbrev pub VerifyEnds : (old new : List Exchange) → Refusal → Type 0
VerifyEnds old new (Mismatch address) = HasReadAt address old new
VerifyEnds old new refusal = EndsAtError refusal new

abbrev pub included_below : Option (List Span) → (size : ℕ) → (a : ℕ) → Bool
included_below included size a = includes included a && nat_lt a size

-- Holds if the result fits the last reply to a read of each sector: after success these replies have the image's byte
-- at each included address, and error 14 has the first included address at which a reply differs from the image.
abbrev pub HasReadBack : Option (List Span) → List ℕ → (old new : List Exchange) → Result Report Refusal → Type 0
HasReadBack included image old new (Ok report) =
    EndsReadBack (included_below included (length image)) (slice_index image) old new
HasReadBack included image old new (Err (Mismatch address)) =
    EndsReadOther (included_below included (length image)) (slice_index image) address old new
HasReadBack included image old new (Err refusal) = ⊤

pub record VerifyAlways (named : Option ChipName) (included : Option (List Span)) (image : List ℕ) (old new : BusState)
    (result : Result Report Refusal) : Type 0 where
  pub only_reads : OnlyReads (most_read 16777216) old new
  pub reports : IfOk result (ReportsPart named old.further)
  pub fits : IfOk result (λ report. FitsInto included report.found.size)
  pub identified : IfOk result (λ report. IsFoundBy old.further new.history report.found)
  pub whole : IfOk result (λ report. length image ≡ report.found.size)
  pub refuses : IfErr result IsVerifyRefusal
  pub last_transaction : IfErr result (VerifyEnds old.history new.history)
  pub read_back : HasReadBack included image old.history new.history result
  pub polled_ready : OnOk result (new.polled_ready ≡ true)

pub record VerifyHonest (named : Option ChipName) (included : Option (List Span)) (old new : BusState)
    (result : Result Report Refusal) : Type 0 where
  -- After success the report counts the probe, and one read for each sector with an included address.
  pub reports : IfOk result (λ report. ReportsReads (sectors_included included report.found.size) old new report)
  pub errors : IfErr result (ReadingErrors (most_read 16777216) named old new)

-- Holds for error 4, 5, 12 or 14 if `verify` may return it on a modelled bus. Holds for all other errors.
abbrev pub VerifyErrors : Option ChipName → Option (List Span) → List ℕ → (old new : BusState) → Refusal → Type 0
VerifyErrors named included image old new (ImageSize chip len) =
    IsOtherSize old.further named image old.chip.config chip len
VerifyErrors named included image old new RegionOutside =
    IsPassed old.further named included old.chip.config × (length image ≡ old.chip.config.size)
VerifyErrors named included image old new Stopped = RanOut (most_read old.chip.config.size) old new
VerifyErrors named included image old new (Mismatch address) =
    IsMismatch old.further named included image old.chip address
VerifyErrors named included image old new _ = ⊤

pub record VerifyModelled (named : Option ChipName) (included : Option (List Span)) (image : List ℕ)
    (old new : BusState) (result : Result Report Refusal) : Type 0 where
  pub only_reads : OnlyReads (most_read old.chip.config.size) old new
  pub config : IfOk result (λ report. IsConfigOf old.further old.chip.config report.found)
  pub equal : IfOk result (λ report. AgreeIn included image old.chip.bytes 0 old.chip.config.size)
  pub errors : IfErr result (VerifyErrors named included image old new)

abbrev pub FindsFirst : Option (List Span) → List ℕ → (ℕ → ℕ) → (from to : ℕ) → Option ℕ → Type 0
FindsFirst included image content from to first =
    MatchOption first (AgreeIn included image content from to) (IsFirstOther included image content from to)

abbrev pub ReadsDifference : (old new : List Exchange) → Option ℕ → Type 0
ReadsDifference old new first = MatchOption first ⊤ (λ address. HasReadAt address old new)

-- Holds if `first` is the first included address in this sector, if any, at which the last reply to a read of the
-- sector differs from the image. The history is `reads` after `earlier`, and `reads` reads no other sector.
pub record ComparesReply (included : Option (List Span)) (image : List ℕ) (sector : ℕ) (reads earlier : List Exchange)
    (first : Option ℕ) : Type 0 where
  pub others : (a : ℕ) → a / 4096 ≢ sector → sector_read (reads ++ earlier) a ≡ sector_read earlier a
  pub whole : (a : ℕ) → a / 4096 ≡ sector → includes included a ≡ true
      → length (sector_read (reads ++ earlier) a) ≡ 4096
  pub finds : FindsFirst included image (bytes_read (reads ++ earlier)) (4096 * sector) (4096 * (sector + 1)) first

-- Holds after one sector was compared. The sector is read only if it has an included address.
pub record ComparesPart (included : Option (List Span)) (image : List ℕ) (sector : ℕ) (old new : BusState)
    (compared : Compared) : Type 0 where
  pub counted : compared.reads ≡ (if has_in_sector (includes included) sector then 1 else 0)
  pub only_sectors : AddsSectorReads old.history new.history
  pub compares : (earlier : List Exchange)
      → ComparesReply included image sector only_sectors.later earlier compared.first
  pub replied : ReadsDifference old.history new.history compared.first
  pub honest_reads : HasOnlyRead compared.reads old new
  pub errors : old.honest ≡ true → old.chip.busy ≡ 0 → 4096 * (sector + 1) ≤ old.chip.config.size
      → FindsFirst included image old.chip.bytes (4096 * sector) (4096 * (sector + 1)) compared.first

-- Holds after the sectors below `n` were compared. `compared.first` is the first included address at which the last
-- replies differ from the image, if any.
pub record ComparesBelow (included : Option (List Span)) (image : List ℕ) (size n : ℕ) (old new : BusState)
    (compared : Compared) : Type 0 where
  pub counted : compared.reads ≡ count_below n (has_in_sector (includes included))
  pub most : compared.reads ≤ n
  pub honest_reads : HasOnlyRead compared.reads old new
  pub replied : ReadsDifference old.history new.history compared.first
  pub reads_all : AddsSectorReads old.history new.history
  pub whole : (a : ℕ) → a < 4096 * n → includes included a ≡ true → length (sector_read reads_all.later a) ≡ 4096
  pub finds : FindsFirst included image (bytes_read reads_all.later) 0 (4096 * n) compared.first
  pub errors : IsOpen size old → FindsFirst included image old.chip.bytes 0 (4096 * n) compared.first
