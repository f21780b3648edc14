use Rattle.std.proofs.Common.{ℕ, ◌%◌, ◌≤◌, ◌≡◌, true, arith}
use Rattle.std.proofs.lemmas.Bool.Decides.{nat_tests}
use Rattle.nor_model.specs.Size.{is_chip_size}

pub size_at_least : (n : ℕ) → is_chip_size n ≡ true → 65536 ≤ n
size_at_least n is = grind (arith, nat_tests)

pub size_at_most : (n : ℕ) → is_chip_size n ≡ true → n ≤ 16777216
size_at_most n is = grind (arith, nat_tests)

pub size_in_blocks : (n : ℕ) → is_chip_size n ≡ true → n % 65536 ≡ 0
size_in_blocks n is = grind (arith, nat_tests)
