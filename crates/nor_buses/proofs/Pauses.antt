-- Lemmas: each pause is at most 150 ms if the typical duration is. The pauses of all 65,536 polls of a wait add up to
-- at least 400 s and, if the typical duration is at most 150 ms, to at most 410 s.
use Rattle.std.proofs.Common.{ℕ, zero, suc, ◌≡◌, ◌≤◌, ◌+◌, ◌*◌, ◌-◌, arith}
use Rattle.std.proofs.lemmas.Bool.Decides.{nat_tests}
use Rattle.nor_buses.specs.Pace.{pauses, pause_before}

pub long_pause : (typical elapsed n : ℕ) → 96 ≤ n → pause_before typical elapsed n ≡ 6250
long_pause typical elapsed n h = grind (arith, nat_tests)

pub long_pauses : (typical elapsed n : ℕ) → 6250 * (n - 96) ≤ pauses typical elapsed n
unfolding pauses
long_pauses typical elapsed zero = omega arith
long_pauses typical elapsed (suc n) =
    grind (arith, nat_tests, long_pause typical elapsed n, long_pauses typical elapsed n)

pub wait_lasts : (typical elapsed : ℕ) → 400000000 ≤ pauses typical elapsed 65536
wait_lasts typical elapsed = omega (arith, long_pauses typical elapsed 65536)

pub later_pause : (typical elapsed n : ℕ) → pause_before typical elapsed (n + 2) ≤ 6250
later_pause typical elapsed n = grind (arith, nat_tests)

pub short_pauses : (typical elapsed n : ℕ) → pauses typical elapsed (n + 2) ≤ 2 * typical + 6250 * n
unfolding pauses
short_pauses typical elapsed zero = grind (arith, nat_tests)
short_pauses typical elapsed (suc n) =
    grind (arith, nat_tests, later_pause typical elapsed n, short_pauses typical elapsed n)

pub wait_ends : (typical elapsed : ℕ) → typical ≤ 150000 → pauses typical elapsed 65536 ≤ 410000000
wait_ends typical elapsed h = omega (arith, h, short_pauses typical elapsed 65534)

pub pause_is_short : (typical elapsed n : ℕ) → typical ≤ 150000 → pause_before typical elapsed n ≤ 150000
pause_is_short typical elapsed n h = grind (arith, nat_tests)
