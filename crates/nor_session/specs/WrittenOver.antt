-- A chip whose contents are in files, and what these files may hold while they are overwritten.
use Rattle.std.specs.Prelude.{◌≡◌, ◌⊎◌, ℕ}
use Rattle.nor_model.specs.Chip.{Chip}

-- Holds if the chip `opened` can be opened from files that held the chip `old` and were being overwritten with the chip
-- `new`. Each byte, and the non-volatile bits of each status byte, are those of `old` or of `new`. `opened` is idle.
pub record IsWrittenOver (old new opened : Chip) : Type 0 where
  pub config : opened.config ≡ old.config
  pub bytes : (a : ℕ) → (opened.bytes a ≡ old.bytes a) ⊎ (opened.bytes a ≡ new.bytes a)
  pub one : (opened.kept.one ≡ old.kept.one) ⊎ (opened.kept.one ≡ new.kept.one)
  pub two : (opened.kept.two ≡ old.kept.two) ⊎ (opened.kept.two ≡ new.kept.two)
  pub idle : opened.busy ≡ 0
