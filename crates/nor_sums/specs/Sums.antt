use Rattle.std.specs.Prelude.{◌≡◌, ℕ, ⊤, List, ◌∷◌, ◌++◌, Option, None, Some, codes, replicate, slice_get, take}
use Rattle.std.specs.List.{flat_map}
use Rattle.std.specs.Option.{unwrap_or}
use Rattle.sha2.specs.Sha256.{sha256}

unfoldable pub sum_of : (bytes : List ℕ) → List ℕ
sum_of bytes = take 8 (sha256 bytes)

abbrev pub entry_of : (entries : List (Option (List ℕ))) → (s : ℕ) → Option (List ℕ)
entry_of entries s = unwrap_or (slice_get entries s) None

abbrev pub Agree : (before after : Option (List ℕ)) → Type 0
Agree None after = ⊤
Agree (Some sum) after = after ≡ Some sum

-- the nine bytes of an entry: 1 and the checksum, or nine zero bytes if no checksum is known
abbrev pub entry_text : Option (List ℕ) → List ℕ
entry_text None = replicate 9 0
entry_text (Some sum) = 1 ∷ sum

unfoldable pub sums_body : (id unique : List ℕ) → (entries : List (Option (List ℕ))) → List ℕ
sums_body id unique entries = codes "NORSUMS1" ++ id ++ unique ++ flat_map entry_text entries

unfoldable pub sums_text : (id unique : List ℕ) → (entries : List (Option (List ℕ))) → List ℕ
sums_text id unique entries = sums_body id unique entries ++ sha256 (sums_body id unique entries)
