-- The effect of a change of some sectors, after success (`HasMade`) and at every exit (`MayChange`).
use Rattle.std.specs.Prelude.{◌≡◌, ◌≤◌, ◌+◌, ◌-◌, ◌*◌, ◌/◌, ◌==◌, ◌&&◌, ◌||◌, ◌⊎◌, ℕ, Bool, true, false, List, slice_index, bit_and, if◌then◌else◌}
use Rattle.nor_model.specs.Chip.{Chip}
use Rattle.nor_model.specs.Guard.{is_protected}
use Rattle.nor_model.specs.Bus.{BusState}
use Rattle.nor_model.specs.declared.config.Kinds.{Kinds}
use Rattle.nor_apply.specs.Within.{IsWithin, addresses_of}

pub record CanChange (sectors : ℕ → Bool) (chip : Chip) : Type 0 where
  pub idle : chip.busy ≡ 0
  pub inside : (s : ℕ) → sectors s ≡ true → 4096 * s + 4096 ≤ chip.config.size
  pub free : (a : ℕ) → sectors (a / 4096) ≡ true → is_protected chip a ≡ false

pub record IsSized (size : ℕ) (kinds : Kinds) (chip : Chip) : Type 0 where
  pub same : chip.config.size ≡ size
  pub same_kinds : chip.config.kinds ≡ kinds

abbrev pub OnlyFalls : (sectors : ℕ → Bool) → (wanted content : ℕ → ℕ) → Type 0
OnlyFalls sectors wanted content = (a : ℕ) → sectors (a / 4096) ≡ true → bit_and (wanted a) (content a) ≡ wanted a

-- Holds if the chip differs from `old.chip` only as `IsWithin` allows at the touched sectors, and only raised sectors
-- were erased. On a steady bus, each byte of a sector that isn't raised is the old or the target byte.
pub record MayChange (touched raised : ℕ → Bool) (wanted : ℕ → ℕ) (old new : BusState) : Type 0 where
  pub within : IsWithin (addresses_of touched) old.chip new
  pub gentle : old.steady ≡ true → (a : ℕ) → raised (a / 4096) ≡ false
      → (new.chip.bytes a ≡ old.chip.bytes a) ⊎ (new.chip.bytes a ≡ wanted a)
  pub worn : (s : ℕ) → raised s ≡ false → new.worn s ≡ old.worn s

pub record HasMade (addresses : ℕ → Bool) (wanted : ℕ → ℕ) (erased : ℕ → Bool) (old new : BusState) : Type 0 where
  pub config : new.chip.config ≡ old.chip.config
  pub bytes : (a : ℕ) → new.chip.bytes a ≡ (if addresses a then wanted a else old.chip.bytes a)
  pub kept : new.chip.kept ≡ old.chip.kept
  pub worn : (s : ℕ) → new.worn s ≡ (old.worn s || erased s)
  pub idle : new.chip.busy ≡ 0
  pub latch : new.chip.latch ≡ true → old.chip.latch ≡ true

abbrev pub HasChanged : (sectors : ℕ → Bool) → (wanted : ℕ → ℕ) → (erased : ℕ → Bool) → (old new : BusState) → Type 0
HasChanged sectors = HasMade (addresses_of sectors)

-- True if `a` is in one of `sectors`, and `byte` is the target byte at `a`.
abbrev pub is_target_byte : (sectors : ℕ → Bool) → (wanted : ℕ → ℕ) → (a byte : ℕ) → Bool
is_target_byte sectors wanted a byte = sectors (a / 4096) && byte == wanted a

abbrev pub blank : ℕ → ℕ
blank a = 255

abbrev pub only : (sector s : ℕ) → Bool
only sector s = s == sector

-- The byte at address `a`, which must be in the sector `sector`. `bytes` are the bytes of this sector.
abbrev pub byte_of : ℕ → List ℕ → ℕ → ℕ
byte_of sector bytes a = slice_index bytes (a - 4096 * sector)
