-- The content of a journal, decoded from its bytes by position.
use Rattle.std.specs.Prelude.{◌≡◌, ℕ, zero, suc, ◌+◌, ◌*◌, ◌/◌, ◌<◌, ◌≤◌, List, [], ◌∷◌, ◌++◌, length, take, drop, true}
use Rattle.std.specs.Prelude.{IfSome}
use Rattle.nor_geometry.specs.Size.{is_chip_size}
use Rattle.nor_journal.specs.Number.{number_at}
use Rattle.nor_journal.specs.Text.{SavedSector, Content, AreRising, next_number, end_mark}
use Rattle.nor_journal.specs.Fault.{RecordFault}
use Rattle.nor_journal.specs.declared.fault.JournalFault.{JournalFault}
use Rattle.nor_journal.specs.declared.head.Head.{Head}

abbrev pub sector_at : List ℕ → ℕ → SavedSector
sector_at bytes k = record { number = number_at (drop (4100 * k) bytes); bytes = take 4096 (drop (4100 * k + 4) bytes) }

unfoldable pub saved_records : ℕ → List ℕ → List SavedSector
saved_records zero bytes = []
saved_records (suc k) bytes = saved_records k bytes ++ sector_at bytes k ∷ []

abbrev pub with_header : Head → Content
with_header h = record { id = h.id; unique = h.unique; status = h.status; size = h.size; saved = [] }

abbrev pub content_at : Head → ℕ → List ℕ → Content
content_at h k bytes =
    record { id = h.id; unique = h.unique; status = h.status; size = h.size; saved = saved_records k bytes }

pub record IsHeader (h : Head) : Type 0 where
  pub id : length h.id ≡ 3
  pub unique : IfSome h.unique (λ unique. length unique ≡ 8)
  pub status : length h.status ≡ 2
  pub size : is_chip_size h.size ≡ true

-- Holds if `bytes`, the bytes after the header `h`, begin with `k` complete records of ascending sectors of the chip.
pub record HasRecords (h : Head) (bytes : List ℕ) (k : ℕ) : Type 0 where
  pub within : 4100 * k ≤ length bytes
  pub rising : AreRising (h.size / 4096) 0 (saved_records k bytes)

pub record FaultAfterRecords (h : Head) (bytes : List ℕ) (fault : JournalFault) : Type 0 where
  pub count : ℕ
  pub records : HasRecords h bytes count
  pub next : RecordFault (h.size / 4096) (next_number (content_at h count bytes)) (drop (4100 * count) bytes) fault

-- Holds if `bytes`, the bytes after the header `h`, begin with `k` valid records and then the end mark.
pub record EndsAfter (h : Head) (bytes : List ℕ) (k : ℕ) : Type 0 where
  pub records : HasRecords h bytes k
  pub mark : take 4 (drop (4100 * k) bytes) ≡ end_mark

-- Holds if `bytes` begin with a complete record whose number is `number`, at least `least` and below `sectors`.
pub record BeginsRecord (sectors least : ℕ) (bytes : List ℕ) (number : ℕ) : Type 0 where
  pub is : number ≡ number_at bytes
  pub rises : least ≤ number
  pub place : number < sectors
  pub whole : 4100 ≤ length bytes
