use Rattle.std.specs.Prelude.{◌≡◌, ◌≢◌, ◌<◌, ◌*◌, ◌/◌, ◌%◌, ◌++◌, ℕ, Bool, true, List, length, slice_index, Some}
use Rattle.std.specs.List.{All}
use Rattle.nor_model.specs.Exchange.{Exchange}
use Rattle.nor_model.specs.History.{Continues, last_reply, names}

-- The reply to the last read (03h) from the start of the sector that contains the address `a`. The reply is `[]` if
-- there was no such read or the bus stopped at it.
abbrev pub sector_read : List Exchange → (a : ℕ) → List ℕ
sector_read history a = last_reply (names 0x03 (4096 * (a / 4096))) history

abbrev pub bytes_read : List Exchange → (a : ℕ) → ℕ
bytes_read history a = slice_index (sector_read history a) (a % 4096)

pub record IsSectorRead (exchange : Exchange) : Type 0 where
  pub sector : ℕ
  pub bytes : List ℕ
  pub reads : names 0x03 (4096 * sector) exchange.out ≡ true
  pub replied : exchange.reply ≡ Some bytes

pub record AddsSectorReads (old new : List Exchange) : Type 0 where
  pub later : List Exchange
  pub is : new ≡ later ++ old
  pub each : All IsSectorRead later

pub record IsReadAs (byte : ℕ) (history : List Exchange) (a : ℕ) : Type 0 where
  pub whole : length (sector_read history a) ≡ 4096
  pub same : bytes_read history a ≡ byte

pub record HaveBeenRead (Addresses : (a : ℕ) → Type 0) (old new : List Exchange) : Type 0 where
  pub later : List Exchange
  pub is : new ≡ later ++ old
  pub whole : (a : ℕ) → Addresses a → length (sector_read later a) ≡ 4096

-- Holds if only successful reads of sectors follow `old`, and the bytes last read at `addresses` are those of `target`.
pub record ReadsBack (addresses : ℕ → Bool) (target : ℕ → ℕ) (old new : List Exchange) : Type 0 where
  pub reads : AddsSectorReads old new
  pub each : (a : ℕ) → addresses a ≡ true → IsReadAs (target a) reads.later a

-- Holds if only successful reads of sectors follow `old`, and `address` is the lowest of `addresses` at which the byte
-- last read isn't that of `target`.
pub record ReadsOther (addresses : ℕ → Bool) (target : ℕ → ℕ) (address : ℕ) (old new : List Exchange) : Type 0 where
  pub reads : AddsSectorReads old new
  pub is : addresses address ≡ true
  pub whole : length (sector_read reads.later address) ≡ 4096
  pub differs : bytes_read reads.later address ≢ target address
  pub before : (a : ℕ) → a < address → addresses a ≡ true → IsReadAs (target a) reads.later a

abbrev pub EndsReadBack : (addresses : ℕ → Bool) → (target : ℕ → ℕ) → (old new : List Exchange) → Type 0
EndsReadBack addresses target old new =
    (before : List Exchange) × Continues old before × ReadsBack addresses target before new

abbrev pub EndsReadOther : (addresses : ℕ → Bool) → (target : ℕ → ℕ) → (address : ℕ) → (old new : List Exchange)
    → Type 0
EndsReadOther addresses target address old new =
    (before : List Exchange) × Continues old before × ReadsOther addresses target address before new
