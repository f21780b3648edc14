use Rattle.std.specs.Prelude.{◌≡◌, ◌<◌, ◌≤◌, ◌+◌, ℕ, Option, None, Some}
use Rattle.nor_model.specs.declared.guard.walk.Offered.{Offered}
use Rattle.nor_model.specs.Offer.{IsLeastCode}

abbrev pub size_of : Offered → ℕ
size_of walk = walk.size

-- The first code that the iterator has not passed, or 64 if it has passed all codes.
abbrev pub next_code : Offered → ℕ
next_code walk = walk.next

pub record IsNextRange (old : Offered) (start len : ℕ) (new : Offered) : Type 0 where
  pub code : ℕ
  pub not_passed : next_code old ≤ code
  pub least : IsLeastCode (size_of old) start len code
  pub plain : len ≡ 0 → start ≡ 0
  pub no_other : (other start' len' : ℕ) → next_code old ≤ other → other < code
      → ¬ IsLeastCode (size_of old) start' len' other
  pub passed : next_code new ≡ code + 1
  pub size : size_of new ≡ size_of old

pub record IsAtEnd (old new : Offered) : Type 0 where
  pub none : (code start len : ℕ) → next_code old ≤ code → ¬ IsLeastCode (size_of old) start len code
  pub ended : next_code new ≡ 64
  pub size : size_of new ≡ size_of old

abbrev pub ReturnsNextRange : Offered → Option (ℕ × ℕ) → Offered → Type 0
ReturnsNextRange old (Some (start, len)) new = IsNextRange old start len new
ReturnsNextRange old None new = IsAtEnd old new

pub record IsStart (chip_size : ℕ) (walk : Offered) : Type 0 where
  pub size : size_of walk ≡ chip_size
  pub first : next_code walk ≡ 0
