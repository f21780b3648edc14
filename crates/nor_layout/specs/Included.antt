use Rattle.std.specs.Prelude.{ℕ, ◌==◌, Bool, ◌&&◌, nat_le, List}
use Rattle.std.specs.Str.{bytes_eq}
use Rattle.std.specs.List.{slice_split, list_any, list_all}
use Rattle.nor_layout.specs.declared.region.Region.{Region}
use Rattle.nor_layout.specs.Text.{is_region_named}

-- The parts of a text between its commas. An empty part counts as a name, but no region of a layout has an empty name.
abbrev pub names_of : List ℕ → List (List ℕ)
names_of text = slice_split (λ b. b == 44) text

abbrev pub are_known : List Region → List ℕ → Bool
are_known regions text = list_all (λ name. is_region_named regions name) (names_of text)

abbrev pub has_address : Region → ℕ → Bool
has_address region address = nat_le region.start address && nat_le address region.end

abbrev pub name_includes : List Region → ℕ → List ℕ → Bool
name_includes regions address name =
    list_any (λ region. bytes_eq region.name.items name && has_address region address) regions

abbrev pub is_included : List Region → List ℕ → ℕ → Bool
is_included regions text address = list_any (name_includes regions address) (names_of text)
