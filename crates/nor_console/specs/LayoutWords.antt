-- The words of the lines of a layout text.
use Rattle.std.specs.Prelude.{ℕ, Bool, List, [], ◌∷◌, ◌++◌, ◌||◌, if◌then◌else◌, nat_eq}
use Rattle.nor_console.specs.declared.layout_words.Place.{Place}
use Rattle.nor_console.specs.declared.layout_words.Place.TheVariants as place

abbrev pub is_separator : ℕ → Bool
is_separator byte =
    nat_eq byte 9 || (nat_eq byte 11 || (nat_eq byte 12 || (nat_eq byte 13 || nat_eq byte 32)))

abbrev pub place_after : (before : Place) → (byte : ℕ) → Place
place_after place.Start byte =
    if nat_eq byte 10 then place.Start else if is_separator byte then place.Start else place.Word
place_after _ byte = if nat_eq byte 10 then place.Start else if is_separator byte then place.Blank else place.Word

-- the bytes that replace `byte`: none for a blank; a space and `byte` at the start of a further word; otherwise `byte`
abbrev pub kept_in_words : (before : Place) → (byte : ℕ) → List ℕ
kept_in_words place.Blank byte =
    if nat_eq byte 10 then byte ∷ [] else if is_separator byte then [] else 32 ∷ byte ∷ []
kept_in_words _ byte = if nat_eq byte 10 then byte ∷ [] else if is_separator byte then [] else byte ∷ []

-- the text with one space between the words of each line; `before` is what precedes its first byte
unfoldable pub in_words : (before : Place) → (text : List ℕ) → List ℕ
in_words before [] = []
in_words before (byte ∷ text) = kept_in_words before byte ++ in_words (place_after before byte) text
