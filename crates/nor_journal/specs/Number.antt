-- A number in a journal: four bytes, little-endian.
use Rattle.std.specs.Prelude.{ℕ, List}
use Rattle.byteorder.specs.Endian.{little_bytes, little_number}

unfoldable pub number_text : (n : ℕ) → List ℕ
number_text n = little_bytes 4 n

unfoldable pub number_at : List ℕ → ℕ
number_at bytes = little_number 4 bytes
