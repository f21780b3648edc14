use Rattle.std.specs.Prelude.{◌≡◌, ◌<◌, ◌≤◌, ◌+◌, ◌*◌, ◌/◌, ◌%◌, ◌==◌, ◌&&◌, ◌⊎◌, ℕ, Bool, true, false, not, nat_lt, nat_le, if◌then◌else◌, ⊤}
use Rattle.nor_model.specs.declared.running.Running.{Running}
use Rattle.nor_model.specs.declared.running.Running.TheVariants.{Program, Erase, StatusWrite, Unknown}
use Rattle.nor_model.specs.Chip.{Chip, IsSame, KeptBits}

abbrev pub is_in_work : Running → (a : ℕ) → Bool
is_in_work (Program page) a = a / 256 == page
is_in_work (Erase start len) a = nat_le start a && nat_lt a (start + len)
is_in_work (StatusWrite one two) a = false
is_in_work Unknown a = true

abbrev pub is_known_running : Running → Bool
is_known_running Unknown = false
is_known_running _ = true

pub record RunsInside (size : ℕ) (running : Running) : Type 0 where
  pub page : (p : ℕ) → running ≡ Program p → 256 * p + 256 ≤ size
  pub unit : (start len : ℕ) → running ≡ Erase start len → start + len ≤ size
  pub kept1 : (one two : ℕ) → running ≡ StatusWrite one two → one < 64
  pub kept2 : (one two : ℕ) → running ≡ StatusWrite one two → two < 128

-- Holds if a power failure during the operation may change the non-volatile status bits from `old` to `new`. During a
-- status write, `old` already has the bits that were written, and `new` may have those from before the write.
abbrev pub KeptCut : Running → (old new : KeptBits) → Type 0
KeptCut (StatusWrite one two) old new = (new ≡ old) ⊎ (new ≡ record { one = one; two = two })
KeptCut Unknown old new = ⊤
KeptCut _ old new = new ≡ old

-- Holds if a power failure can take the chip from `old` to `new`, which is idle. If the chip was busy, each byte on
-- which the operation worked may have any value.
pub record PowerLost (old new : Chip) : Type 0 where
  pub config : new.config ≡ old.config
  pub latch : new.latch ≡ false
  pub busy : new.busy ≡ 0
  pub bytes : (a : ℕ) → is_in_work old.running a ≡ false → new.bytes a ≡ old.bytes a
  pub kept : KeptCut old.running old.kept new.kept
  pub idle : old.busy ≡ 0 → IsSame old new

abbrev pub is_interrupted : Chip → ℕ → Bool
is_interrupted chip a = not (chip.busy == 0) && is_known_running chip.running && is_in_work chip.running a

abbrev pub kept_before : Chip → KeptBits
kept_before chip = elim chip.running [ StatusWrite one two ↦ record { one = one; two = two } | _ ↦ chip.kept ]

-- Holds if a power failure takes a simulated chip from `old` to `new`. Each byte on which a known operation worked
-- becomes `fill`. A status write is undone if `fill` is even, and completed if it is odd.
pub record PowerLostWith (fill : ℕ) (old new : Chip) : Type 0 where
  pub config : new.config ≡ old.config
  pub latch : new.latch ≡ false
  pub busy : new.busy ≡ 0
  pub bytes : (a : ℕ) → new.bytes a ≡ (if is_interrupted old a then fill else old.bytes a)
  pub kept : new.kept ≡ (if not (old.busy == 0) && fill % 2 == 0 then kept_before old else old.kept)
