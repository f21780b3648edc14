-- A printed line, and an ID as hexadecimal digits.
use Rattle.std.specs.Prelude.{ℕ, List, [], ◌∷◌, ◌++◌, codes, slice_index}
use Rattle.nor_request.specs.Texts.{hex_digits}

unfoldable pub line : List (List ℕ) → List ℕ
line [] = codes "\n"
line (piece ∷ pieces) = piece ++ line pieces

abbrev pub id_digits : List ℕ → List ℕ
id_digits id = hex_digits 2 (slice_index id 0) ++ (hex_digits 2 (slice_index id 1) ++ hex_digits 2 (slice_index id 2))
