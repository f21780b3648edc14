-- The effect of a scan: the touched and raised sectors, and what is written to the journal.
use Rattle.std.specs.Prelude.{◌≡◌, ◌<◌, ◌≤◌, ◌+◌, ◌*◌, ◌/◌, ◌==◌, ◌&&◌, ◌||◌, ℕ, Bool, true, false, nat_lt, Result, Err, List, slice_index, if◌then◌else◌, ⊤}
use Rattle.nor_model.specs.History.{Answered, names}
use Rattle.nor_model.specs.Bus.{BusState}
use Rattle.nor_driver.specs.OnlyReads.{Rested, Spent, HasStopped, IsOpen}
use Rattle.nor_journal.specs.declared.writer.Writer.{Writer}
use Rattle.nor_journal.specs.Text.{Content}
use Rattle.nor_journal.specs.Saved.{IsJournalPrefix}
use Rattle.nor_journal.specs.Vault.{VaultState, Refused, Accepted}
use Rattle.nor_journal.specs.Writer.{HasPutSectors}
use Rattle.nor_driver.specs.Ready.{StaysReady}
use Rattle.nor_driver.specs.Reads.{IsSectorOf}
use Rattle.nor_driver.specs.ReadsInTurn.{HasOnlyRead}
use Rattle.nor_driver.specs.ReadBack.{bytes_read, HaveBeenRead}
use Rattle.nor_plan.specs.declared.plan.SectorPlan.{SectorPlan}
use Rattle.nor_plan.specs.SectorSet.{has}
use Rattle.nor_geometry.specs.Counts.{sector_count}
use Rattle.nor_plan.specs.Content.{is_touched, is_raised}
use Rattle.nor_request.specs.declared.refusal.Refusal.{Refusal}
use Rattle.nor_request.specs.declared.refusal.Refusal.TheVariants.{Vault, Stopped}
use Rattle.nor_request.specs.declared.request.Request.{Request}
use Rattle.nor_scan.specs.declared.scanning.Scanned.{Scanned}
use Rattle.nor_request.specs.Request.{is_data, target, is_requested, scanned_sectors}
use Rattle.nor_layout.specs.Sectors.{includes, has_in_sector}

-- The target byte at address `a`. If the request may change this address, the target is the byte of the image (for a
-- write) or FFh (for an erase), otherwise the byte of `content`.
abbrev pub wanted_at : Request → (image : List ℕ) → (size : ℕ) → (content : ℕ → ℕ) → (a : ℕ) → ℕ
wanted_at request image size content a = if is_requested request size a then target request.what image a else content a

pub record HasMarked (sector : ℕ) (plan : SectorPlan) (old new : Scanned) : Type 0 where
  pub touched : (s : ℕ) → has new.touched s ≡ ((plan.touched && (s == sector)) || has old.touched s)
  pub raised : (s : ℕ) → has new.raised s ≡ ((plan.raised && (s == sector)) || has old.raised s)
  pub count : new.count ≡ old.count + (if plan.touched then 1 else 0)
  pub reads : new.reads ≡ old.reads + 1

pub record IsBlank (scanned : Scanned) : Type 0 where
  pub touched : (s : ℕ) → has scanned.touched s ≡ false
  pub raised : (s : ℕ) → has scanned.raised s ≡ false
  pub count : scanned.count ≡ 0
  pub reads : scanned.reads ≡ 0

pub record AreMarks (n : ℕ) (scanned : Scanned) : Type 0 where
  pub below : (s : ℕ) → has scanned.touched s ≡ true → s < n
  pub inside : (s : ℕ) → has scanned.raised s ≡ true → has scanned.touched s ≡ true
  pub count : scanned.count ≡ sector_count (has scanned.touched)

pub record AreRight (wanted content : ℕ → ℕ) (seen : ℕ → Bool) (scanned : Scanned) : Type 0 where
  pub touched : (s : ℕ) → has scanned.touched s ≡ (seen s && is_touched content wanted s)
  pub raised : (s : ℕ) → has scanned.raised s ≡ (seen s && is_raised content wanted s)

abbrev pub sectors_below : (n s : ℕ) → Bool
sectors_below n s = nat_lt s n

-- Holds after the scan of a sector whose read returned `bytes`. If these are the chip's bytes, the sector's part of the
-- image has the target bytes after the scan (`part'`), and `plan` says whether the sector is touched and raised.
pub record ScansSector (request : Request) (size sector : ℕ) (part part' bytes : List ℕ)
    (old new : BusState) (plan : SectorPlan) : Type 0 where
  pub needed : plan.raised ≡ true → plan.touched ≡ true
  pub answered : Answered (names 0x03 (4096 * sector)) old.history new.history bytes
  pub honest_reads : HasOnlyRead 1 old new
  pub shown : IsOpen size old → IsSectorOf old.chip.bytes sector bytes
  pub merged : (content : ℕ → ℕ) → IsSectorOf content sector bytes → (image : List ℕ)
      → ((i : ℕ) → i < 4096 → slice_index part i ≡ slice_index image (4096 * sector + i))
      → (i : ℕ) → i < 4096
      → slice_index part' i ≡ wanted_at request image size content (4096 * sector + i)
  pub planned : (content : ℕ → ℕ) → IsSectorOf content sector bytes → (image : List ℕ)
      → ((i : ℕ) → i < 4096 → slice_index part i ≡ slice_index image (4096 * sector + i))
      → (plan.touched ≡ is_touched content (wanted_at request image size content) sector)
      × (plan.raised ≡ is_raised content (wanted_at request image size content) sector)

-- Holds if a session scans the sector of address `a`, because the request is a write or an erase, and the sector is on
-- the chip and has an included address.
abbrev pub IsScanned : Request → (size : ℕ) → (a : ℕ) → Type 0
IsScanned request size a = (is_data request.what ≡ true) × (a / 4096 < size / 4096)
    × (has_in_sector (includes request.included) (a / 4096) ≡ true)

-- Holds after a scan. The touched and raised sectors, and the target bytes of touched sectors in `image'`, are right
-- for the bytes that were read and, on a well-behaved bus with an idle chip of this size, for the chip's bytes.
pub record Scans (request : Request) (size : ℕ) (image image' : List ℕ) (old new : BusState)
    (scanned : Scanned) : Type 0 where
  pub marks : AreMarks (size / 4096) scanned
  pub reads : scanned.reads ≡ scanned_sectors request size
  pub few : scanned.count ≤ scanned.reads
  pub polled_ready : StaysReady old new
  pub rested : old.honest ≡ true → Rested old new
  pub sent : old.honest ≡ true → Spent scanned.reads old new
  pub read : HaveBeenRead (IsScanned request size) old.history new.history
  pub replied : AreRight (wanted_at request image size (bytes_read new.history)) (bytes_read new.history)
      (sectors_below (size / 4096)) scanned
  pub filled : (a : ℕ) → has scanned.touched (a / 4096) ≡ true
      → slice_index image' a ≡ wanted_at request image size (bytes_read new.history) a
  pub right : IsOpen size old
      → AreRight (wanted_at request image size old.chip.bytes) old.chip.bytes (sectors_below (size / 4096)) scanned
  pub merged : IsOpen size old → (a : ℕ) → has scanned.touched (a / 4096) ≡ true
      → slice_index image' a ≡ wanted_at request image size old.chip.bytes a

abbrev pub ScanErrors : ℕ → (old new : BusState) → Refusal → Type 0
ScanErrors most old new Stopped = HasStopped most old new
ScanErrors most old new Vault = ⊤
ScanErrors most old new _ = ⊥

-- Holds if the vault refused a call and the result is error 11, or it accepted every call and the result is another.
abbrev pub ScanPuts : {T : Type 0} → Result T Refusal → (old new : VaultState) → Type 0
ScanPuts (Err Vault) old new = Refused old new
ScanPuts _ old new = Accepted old new

-- Holds if a faithful vault (`telling`) has a prefix of a journal with the header of `head`. This journal saves exactly
-- the touched sectors below `total`, with their bytes in `old`.
abbrev pub HoldsCut : VaultState → (head : Content) → (old : ℕ → ℕ) → (touched : ℕ → Bool) → (total : ℕ) → Type 0
HoldsCut vault head old touched total = vault.telling ≡ true
    → IsJournalPrefix head old (λ s. nat_lt s total && touched s) vault.bytes

-- Holds if the writer was given exactly this header and, for some bound of at most `total`, the records of the touched
-- sectors below this bound.
pub record HasKeptBelow {V : Type 0} (state : V → VaultState) (writer : Writer V) (head : Content) (old : ℕ → ℕ)
    (touched : ℕ → Bool) (total : ℕ) : Type 0 where
  pub bound : ℕ
  pub inside : bound ≤ total
  pub kept : HasPutSectors state writer head old (λ s. nat_lt s bound && touched s) bound
