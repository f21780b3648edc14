use Rattle.std.specs.Prelude.{Bool, true, false, List, [], ◌∷◌, Option, None, Some, if◌then◌else◌, nat_eq}
use Rattle.std.specs.Cmp.Lexicographic.{pointwise}
use Rattle.nor_files.specs.Files.{Name}
use Rattle.nor_files.specs.Stored.{File, file_in, missing}
use Rattle.nor_files.specs.declared.stored.Stored.{Stored}

abbrev pub are_same_names : (one other : Name) → Bool
are_same_names = pointwise nat_eq

abbrev pub is_named : Name → Stored → Bool
is_named name stored = are_same_names stored.name.items name

abbrev pub file_named : List Stored → Name → File
file_named [] name = missing
file_named (stored ∷ files) name = if is_named name stored then file_in stored else file_named files name

-- true if the list has an entry of this name, which may be the entry of a missing file
abbrev pub is_there : List Stored → Name → Bool
is_there [] name = false
is_there (stored ∷ files) name = if is_named name stored then true else is_there files name

-- true if no vault is borrowed, or if the list has an entry for the file whose vault is borrowed
abbrev pub is_borrowed_there : List Stored → Option Name → Bool
is_borrowed_there files None = true
is_borrowed_there files (Some name) = is_there files name
