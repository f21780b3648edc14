-- Texts as lists of bytes, their parts at commas, colons and `=`, and which characters are hidden.
use Rattle.std.specs.Prelude.{◌==◌, ◌||◌, ◌&&◌, ℕ, Bool, List, Option, is_some, nat_le}
use Rattle.std.specs.Char.{is_control}
use Rattle.std.specs.List.{slice_split, before_first, after_first}

abbrev pub Text : Type 0
Text = List ℕ

abbrev pub is_hidden : (character : ℕ) → Bool
is_hidden character = is_control character
    || ((nat_le 0x202A character && nat_le character 0x202E) || (nat_le 0x2066 character && nat_le character 0x2069))

abbrev pub pieces_of : Text → List Text
pieces_of = slice_split (λ byte. byte == 44)

-- the bytes that precede the first comma, or the whole text if it has no comma
abbrev pub front_of : Text → Text
front_of = before_first (λ byte. byte == 44)

abbrev pub rest_of : Text → Text
rest_of = after_first (λ byte. byte == 44)

abbrev pub key_of : Text → Text
key_of = before_first (λ byte. byte == 61)

abbrev pub value_of : Text → Text
value_of = after_first (λ byte. byte == 61)

abbrev pub after_colon : Text → Text
after_colon = after_first (λ byte. byte == 58)

abbrev pub reads : {T : Type 0} → (Text → Option T) → Text → Bool
reads reading text = is_some (reading text)
