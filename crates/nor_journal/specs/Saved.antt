-- The sectors that the content of a journal saves, and their bytes.
use Rattle.std.specs.Prelude.{◌≡◌, ◌≢◌, ℕ, ◌+◌, ◌*◌, ◌/◌, ◌%◌, ◌<◌, Bool, true, false, List, [], ◌∷◌, length, slice_index, slice_get, Option, Some, None, IsSomeAnd, ◌==◌, if◌then◌else◌}
use Rattle.std.specs.Io.{StartsWith}
use Rattle.std.specs.Option.{is_some, unwrap_or}
use Rattle.nor_journal.specs.Text.{SavedSector, Content, IsContent, SameHeader, text}

-- the bytes that the list saves for the sector `number`, or None if it doesn't save this sector
unfoldable pub saved_in : List SavedSector → (number : ℕ) → Option (List ℕ)
saved_in [] number = None
saved_in (s ∷ rest) number = if s.number == number then Some s.bytes else saved_in rest number

pub record HasRecord (content : Content) (sector : ℕ) (bytes : List ℕ) : Type 0 where
  pub place : ℕ
  pub is : slice_get content.saved place ≡ Some (record { number = sector; bytes = bytes })

abbrev pub is_saved : Content → (s : ℕ) → Bool
is_saved content s = is_some (saved_in content.saved s)

-- the byte that the content saves for the address `a`, which must be in a saved sector
abbrev pub saved_byte : Content → (a : ℕ) → ℕ
saved_byte content a = slice_index (unwrap_or (saved_in content.saved (a / 4096)) []) (a % 4096)

pub record IsWholeSector (old : ℕ → ℕ) (s : ℕ) (bytes : List ℕ) : Type 0 where
  pub whole : length bytes ≡ 4096
  pub same : (i : ℕ) → i < 4096 → slice_index bytes i ≡ old (4096 * s + i)

-- Holds if the content is valid, and saves exactly the sectors in the set `saved` of a chip with the contents `old`.
pub record Saves (old : ℕ → ℕ) (saved : ℕ → Bool) (content : Content) : Type 0 where
  pub is : IsContent content
  pub sectors : (s : ℕ) → saved s ≡ true → IsSomeAnd (saved_in content.saved s) (IsWholeSector old s)
  pub others : (s : ℕ) → saved s ≡ false → saved_in content.saved s ≡ None

pub record HasOneMore (saved : ℕ → Bool) (sector : ℕ) (more : ℕ → Bool) : Type 0 where
  pub here : more sector ≡ true
  pub others : (s : ℕ) → s ≢ sector → more s ≡ saved s

-- Holds if `bytes` are a prefix of a journal that satisfies `JournalSaves` for the same header, chip and sectors.
pub record IsJournalPrefix (head : Content) (old : ℕ → ℕ) (saved : ℕ → Bool) (bytes : List ℕ) : Type 0 where
  pub content : Content
  pub same : SameHeader head content
  pub saves : Saves old saved content
  pub begins : StartsWith (text content) bytes

-- Holds if `bytes` are a journal with `head`'s header that saves exactly the sectors `saved` of the contents `old`.
pub record JournalSaves (head : Content) (old : ℕ → ℕ) (saved : ℕ → Bool) (bytes : List ℕ) : Type 0 where
  pub content : Content
  pub same : SameHeader head content
  pub saves : Saves old saved content
  pub is : bytes ≡ text content
