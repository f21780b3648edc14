use Rattle.std.specs.Prelude.{ℕ, Bool, ◌==◌, ◌^◌}
use Rattle.std.specs.List.{list_any, range_with_len}

-- True if `n` is a power of two from 64 KiB to 16 MiB, the most that three address bytes reach.
abbrev pub is_chip_size : ℕ → Bool
is_chip_size n = list_any (λ k. n == 2 ^ k) (range_with_len 16 9)
