-- The first fault of bytes that aren't a journal, read part by part from the beginning.
use Rattle.std.specs.Prelude.{◌≡◌, ◌≢◌, ℕ, ◌-◌, ◌/◌, ◌<◌, ◌≤◌, ◌⊎◌, false, List, ◌++◌, length, take, drop, Option, Some}
use Rattle.std.specs.Prelude.{None}
use Rattle.sha2.specs.Sha256.{sha256}
use Rattle.nor_geometry.specs.Size.{is_chip_size}
use Rattle.nor_journal.specs.Number.{number_at}
use Rattle.nor_journal.specs.Text.{Content, IsContent, magic, front, end_mark, next_number}
use Rattle.nor_journal.specs.declared.fault.JournalFault.{JournalFault}
use Rattle.nor_journal.specs.declared.fault.JournalFault.TheVariants.{Short, Magic, Size, Place, Order, Long, Digest}

abbrev pub journal_fault_number : JournalFault → ℕ
journal_fault_number Short = 1
journal_fault_number Magic = 2
journal_fault_number Size = 3
journal_fault_number Place = 4
journal_fault_number Order = 5
journal_fault_number Long = 6
journal_fault_number Digest = 7

-- The length of a header in bytes. The header's last four bytes are the chip's size.
abbrev pub header_length : (unique : Option (List ℕ)) → ℕ
header_length None = 17
header_length (Some _) = 25

abbrev pub HeaderFault : List ℕ → JournalFault → Type 0
HeaderFault bytes Short = (length bytes < 8)
    ⊎ ((unique : Option (List ℕ)) × (take 8 bytes ≡ magic unique) × (length bytes < header_length unique))
HeaderFault bytes Magic = (8 ≤ length bytes) × ((unique : Option (List ℕ)) → take 8 bytes ≢ magic unique)
HeaderFault bytes Size = (unique : Option (List ℕ)) × (take 8 bytes ≡ magic unique)
    × (header_length unique ≤ length bytes)
    × (is_chip_size (number_at (drop (header_length unique - 4) bytes)) ≡ false)
HeaderFault bytes _ = ⊥

-- Holds if the record at the beginning of `rest` has this fault (`Short` also if `rest` has fewer than four bytes). The
-- number of a record without a fault is at least `least` and below `sectors`.
abbrev pub RecordFault : (sectors least : ℕ) → (rest : List ℕ) → JournalFault → Type 0
RecordFault sectors least rest Short =
    (length rest < 4) ⊎ ((least ≤ number_at rest) × (number_at rest < sectors) × (length rest < 4100))
RecordFault sectors least rest Place = (4 ≤ length rest) × (take 4 rest ≢ end_mark) × (sectors ≤ number_at rest)
RecordFault sectors least rest Order = (4 ≤ length rest) × (number_at rest < sectors) × (number_at rest < least)
RecordFault sectors least rest _ = ⊥

-- Holds if `rest` begins with the end mark, and the digest after it has this fault: `Short` if the digest is
-- incomplete, `Long` if bytes follow the digest, or `Digest` if the digest is wrong.
abbrev pub EndFault : (before rest : List ℕ) → JournalFault → Type 0
EndFault before rest Short = (take 4 rest ≡ end_mark) × (length rest < 36)
EndFault before rest Long = (take 4 rest ≡ end_mark) × (36 < length rest)
EndFault before rest Digest =
    (take 4 rest ≡ end_mark) × (length rest ≡ 36) × (drop 4 rest ≢ sha256 (before ++ end_mark))
EndFault before rest _ = ⊥

-- Holds if `rest`, the bytes after the header and records of `c`, has this fault in its first record or its digest.
abbrev pub NextFault : Content → List ℕ → JournalFault → Type 0
NextFault c rest fault = RecordFault (c.size / 4096) (next_number c) rest fault ⊎ EndFault (front c) rest fault

pub record FaultAfterFront (bytes : List ℕ) (fault : JournalFault) : Type 0 where
  pub content : Content
  pub is_content : IsContent content
  pub rest : List ℕ
  pub split : bytes ≡ front content ++ rest
  pub next : NextFault content rest fault

-- Holds if `fault` is the first fault of `bytes`, in the header or after valid records.
abbrev pub HasFault : List ℕ → JournalFault → Type 0
HasFault bytes fault = HeaderFault bytes fault ⊎ FaultAfterFront bytes fault
