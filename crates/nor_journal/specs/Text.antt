-- The content of a journal, and its encoding (`text`) in two formats.
use Rattle.std.specs.Prelude.{◌≡◌, ℕ, ◌+◌, ◌/◌, ◌<◌, ◌≤◌, true, ⊤, List, [], ◌∷◌, ◌++◌, length, codes, Option, Some, None, IfSome}
use Rattle.std.specs.List.{flat_map}
use Rattle.std.specs.Option.{unwrap_or}
use Rattle.sha2.specs.Sha256.{sha256}
use Rattle.nor_geometry.specs.Size.{is_chip_size}
use Rattle.nor_journal.specs.Number.{number_text}

pub record SavedSector : Type 0 where
  pub number : ℕ
  pub bytes : List ℕ

-- The content of a journal: the chip's ID (3 bytes), unique ID (8 bytes, or None in format 1), status 1 and 2, and size
-- in bytes, and the saved sectors. `IsContent` says when a content is valid.
pub record Content : Type 0 where
  pub id : List ℕ
  pub unique : Option (List ℕ)
  pub status : List ℕ
  pub size : ℕ
  pub saved : List SavedSector

pub record IsSectorBelow (sectors : ℕ) (s : SavedSector) : Type 0 where
  pub place : s.number < sectors
  pub whole : length s.bytes ≡ 4096

-- Holds if the sectors ascend, and each has 4,096 bytes and a number that is at least `least` and below `sectors`.
abbrev pub AreRising : (sectors least : ℕ) → List SavedSector → Type 0
AreRising sectors least [] = ⊤
AreRising sectors least (s ∷ rest) =
    IsSectorBelow sectors s × (least ≤ s.number) × AreRising sectors (s.number + 1) rest

-- Holds if the content is valid: the IDs and the status have the right lengths, the size is that of a chip, and the
-- saved sectors are complete sectors of this chip in ascending order.
pub record IsContent (c : Content) : Type 0 where
  pub id : length c.id ≡ 3
  pub unique : IfSome c.unique (λ unique. length unique ≡ 8)
  pub status : length c.status ≡ 2
  pub size : is_chip_size c.size ≡ true
  pub saved : AreRising (c.size / 4096) 0 c.saved

abbrev pub magic : (unique : Option (List ℕ)) → List ℕ
magic None = codes "NORUNDO1"
magic (Some _) = codes "NORUNDO2"

unfoldable pub head : Content → List ℕ
head c = magic c.unique ++ c.id ++ unwrap_or c.unique [] ++ c.status ++ number_text c.size

unfoldable pub record_text : SavedSector → List ℕ
record_text s = number_text s.number ++ s.bytes

unfoldable pub records_text : (saved : List SavedSector) → List ℕ
records_text saved = flat_map record_text saved

-- the four bytes FFh after the records, if any; no sector has the number that these bytes encode
unfoldable pub end_mark : List ℕ
end_mark = 0xFF ∷ 0xFF ∷ 0xFF ∷ 0xFF ∷ []

unfoldable pub front : Content → List ℕ
front c = head c ++ records_text c.saved

unfoldable pub body : Content → List ℕ
body c = front c ++ end_mark

-- The encoding of a journal: the header, the records, the end mark, and the SHA-256 of all the bytes before it.
unfoldable pub text : Content → List ℕ
text c = body c ++ sha256 (body c)

abbrev pub empty_content : (id : List ℕ) → (unique : Option (List ℕ)) → (status : List ℕ) → (size : ℕ)
    → Content
empty_content id unique status size = record { id = id; unique = unique; status = status; size = size; saved = [] }

abbrev pub with_sector : Content → ℕ → List ℕ → Content
with_sector c number bytes = record c { saved = c.saved ++ record { number = number; bytes = bytes } ∷ [] }

abbrev pub SameHeader : (c d : Content) → Type 0
SameHeader c d = record c { saved = [] } ≡ record d { saved = [] }

-- The least number that a sector added to the end of the list may have, which is `least` if the list is empty.
abbrev pub least_after : ℕ → List SavedSector → ℕ
least_after least [] = least
least_after least (s ∷ rest) = least_after (s.number + 1) rest

unfoldable pub next_number : Content → ℕ
next_number c = least_after 0 c.saved

pub record MayFollow (c : Content) (number : ℕ) : Type 0 where
  pub rises : next_number c ≤ number
  pub place : number < c.size / 4096
