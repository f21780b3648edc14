use Rattle.std.specs.Prelude.{◌≡◌, ◌<◌, ◌≤◌, ◌+◌, ◌%◌, ◌⊎◌, ℕ, Bool, true, nat_lt, nat_le}

pub record HoldsSomewhere (test : ℕ → Bool) (start len : ℕ) : Type 0 where
  pub place : ℕ
  pub from : start ≤ place
  pub before : place < start + len
  pub holds : test place ≡ true

abbrev pub OnFirst : ℕ → (ℕ → Bool) → ℕ → Type 0
OnFirst size test border = (a : ℕ) → a < size → test a ≡ nat_lt a border

abbrev pub OnLast : ℕ → (ℕ → Bool) → ℕ → Type 0
OnLast size test border = (a : ℕ) → a < size → test a ≡ nat_le border a

-- Holds if, on a chip of `size` bytes, `test` is true on exactly one side of a border. The border is a multiple of 1
-- KiB, and of 4 KiB (a sector) if the size is a multiple of 256 KiB.
pub record LieAtAnEnd (size : ℕ) (test : ℕ → Bool) : Type 0 where
  pub border : ℕ
  pub within : border ≤ size
  pub whole : border % 1024 ≡ 0
  pub sectors : size % 262144 ≡ 0 → border % 4096 ≡ 0
  pub side : OnFirst size test border ⊎ OnLast size test border
