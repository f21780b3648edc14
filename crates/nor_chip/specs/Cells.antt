use Rattle.std.specs.Prelude.{◌≡◌, ◌/◌, ◌+◌, ◌==◌, ◌&&◌, ℕ, List, nat_lt, nat_le, slice_index, if◌then◌else◌}
use Rattle.nor_model.specs.Step.{last_for, lowered}

-- Holds if a program of the bytes `sent` from `at` on, which wraps around in the page of `at`, turns `old` into `new`.
abbrev pub HasPageProgrammed : ℕ → (sent old new : List ℕ) → Type 0
HasPageProgrammed at sent old new =
    (a : ℕ) → slice_index new a
    ≡ (if a / 256 == at / 256 then lowered (slice_index old a) (last_for at sent a) else slice_index old a)

abbrev pub IsFilled : (byte start len : ℕ) → (old new : List ℕ) → Type 0
IsFilled byte start len old new =
    (a : ℕ) → slice_index new a ≡ (if nat_le start a && nat_lt a (start + len) then byte else slice_index old a)
