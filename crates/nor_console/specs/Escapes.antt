-- Names in messages, with hidden characters escaped.
use Rattle.std.specs.Prelude.{ℕ, List, ◌++◌, chars, codes, encode_utf8, flat_map, if◌then◌else◌}
use Rattle.nor_request.specs.Texts.{hex_digits}
use Rattle.nor_args.specs.Text.{Text, is_hidden}

abbrev pub escaped_byte : ℕ → List ℕ
escaped_byte byte = codes "\\x" ++ hex_digits 2 byte

-- the UTF-8 of a character, with each byte escaped if the character is hidden (`is_hidden`)
abbrev pub escaped_character : ℕ → List ℕ
escaped_character character =
    if is_hidden character then flat_map escaped_byte (encode_utf8 character) else encode_utf8 character

abbrev pub escaped : Text → List ℕ
escaped name = flat_map escaped_character (chars name)
