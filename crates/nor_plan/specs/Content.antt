-- The changes that turn the content `old`, a function from addresses to bytes, into the target `wanted`.
use Rattle.std.specs.Prelude.{ℕ, ◌+◌, ◌*◌, ◌/◌, ◌==◌, ◌&&◌, Bool, not, bit_and, if◌then◌else◌}
use Rattle.nor_geometry.specs.Below.{any_below}

abbrev pub is_other : (old wanted : ℕ) → Bool
is_other old wanted = not (old == wanted)

abbrev pub must_rise : (old wanted : ℕ) → Bool
must_rise old wanted = not (bit_and wanted old == wanted)

unfoldable pub is_touched : (old wanted : ℕ → ℕ) → (sector : ℕ) → Bool
is_touched old wanted sector = any_below 4096 (λ i. is_other (old (4096 * sector + i)) (wanted (4096 * sector + i)))

-- True if some bit of `sector` is 1 in `wanted` and 0 in `old`, which needs an erase.
unfoldable pub is_raised : (old wanted : ℕ → ℕ) → (sector : ℕ) → Bool
is_raised old wanted sector = any_below 4096 (λ i. must_rise (old (4096 * sector + i)) (wanted (4096 * sector + i)))

abbrev pub once_erased : (raised : ℕ → Bool) → (old : ℕ → ℕ) → (a : ℕ) → ℕ
once_erased raised old a = if raised (a / 4096) then 255 else old a

unfoldable pub is_page_other : (old wanted : ℕ → ℕ) → (page : ℕ) → Bool
is_page_other old wanted page = any_below 256 (λ i. is_other (old (256 * page + i)) (wanted (256 * page + i)))

abbrev pub is_programmed : (touched : ℕ → Bool) → (old wanted : ℕ → ℕ) → (page : ℕ) → Bool
is_programmed touched old wanted page = touched (page / 16) && is_page_other old wanted page
