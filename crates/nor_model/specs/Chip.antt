use Rattle.std.specs.Prelude.{◌≡◌, ◌<◌, ◌+◌, ◌*◌, ◌/◌, ◌%◌, ◌==◌, ◌||◌, [], ◌∷◌, ℕ, Bool, List, slice_index, slice_index_or, if◌then◌else◌}
use Rattle.nor_model.specs.declared.config.Config.{Config}
use Rattle.nor_model.specs.declared.running.Running.{Running}

-- The non-volatile status bits: all bits of status 1 and 2 except BUSY, WEL and SUS.
pub record KeptBits : Type 0 where
  -- Bits 2 to 7 of status 1, shifted down by two: BP0, BP1, BP2, TB, SEC and SRP0, the lowest bit first.
  pub one : ℕ
  -- Bits 0 to 6 of status 2: SRP1, QE, a reserved bit, LB1, LB2, LB3 and CMP, the lowest bit first.
  pub two : ℕ

abbrev pub kept_in : (status : List ℕ) → KeptBits
kept_in status = record { one = slice_index status 0 / 4; two = slice_index status 1 % 128 }

-- The state of a chip, whose values `IsChip` limits. (W25Q64FV and W25Q128FV datasheets, status registers.)
pub record Chip : Type 0 where
  pub config : Config
  pub bytes : ℕ → ℕ
  pub kept : KeptBits
  -- The write enable latch (WEL).
  pub latch : Bool
  -- The number of polls that will still show BUSY.
  pub busy : ℕ
  -- The operation in progress. This value matters only while the chip is busy.
  pub running : Running

pub record IsChip (chip : Chip) : Type 0 where
  pub busy : chip.busy < 65536
  pub kept1 : chip.kept.one < 64
  pub kept2 : chip.kept.two < 128
  pub bytes : (a : ℕ) → chip.bytes a < 256

abbrev pub status1_of : Chip → ℕ
status1_of chip = 4 * chip.kept.one + (if chip.latch then 2 else 0) + (if chip.busy == 0 then 0 else 1)

-- Status 2, as 35h reads it. Its highest bit, SUS, reads as 0.
abbrev pub status2_of : Chip → ℕ
status2_of chip = chip.kept.two

abbrev pub status_of : Chip → List ℕ
status_of chip = status1_of chip ∷ status2_of chip ∷ []

abbrev pub srp0_bit : KeptBits → ℕ
srp0_bit kept = kept.one / 32

abbrev pub sec_to_bp0 : KeptBits → ℕ
sec_to_bp0 kept = kept.one % 32

abbrev pub cmp_bit : KeptBits → ℕ
cmp_bit kept = kept.two / 64 % 2

abbrev pub lb3_to_srp1 : KeptBits → ℕ
lb3_to_srp1 kept = kept.two % 64

abbrev pub has_srp0 : KeptBits → Bool
has_srp0 kept = srp0_bit kept % 2 == 1

abbrev pub has_srp1 : KeptBits → Bool
has_srp1 kept = kept.two % 2 == 1

-- True if SRP0 or SRP1 is set, so that the chip ignores status writes. A real chip with only SRP0 set ignores them only
-- while its WP# pin is low; the model assumes that this pin is low.
abbrev pub is_locked : KeptBits → Bool
is_locked kept = has_srp0 kept || has_srp1 kept

abbrev pub sfdp_byte : Config → (a : ℕ) → ℕ
sfdp_byte config a = slice_index_or config.sfdp a 255

pub record IsSame (old new : Chip) : Type 0 where
  pub config : new.config ≡ old.config
  pub bytes : (a : ℕ) → new.bytes a ≡ old.bytes a
  pub kept : new.kept ≡ old.kept
