use Rattle.std.specs.Prelude.{◌≡◌, ◌≤◌, ℕ, true, not, ◌==◌, List, ◌∷◌, ◌++◌, length, filter, ◌⊎◌}
use Rattle.std.specs.List.{list_all, AllZip}
use Rattle.nor_layout.specs.declared.region.Region.{Region}
use Rattle.nor_layout.specs.Address.{are_digits, digits_number}
use Rattle.nor_layout.specs.Line.{is_name}
use Rattle.nor_layout.specs.Text.{lines_of, AreNamedApart}

pub record IsAddress (text : List ℕ) (address : ℕ) : Type 0 where
  pub digits : List ℕ
  pub text_is : (text ≡ digits) ⊎ (text ≡ 48 ∷ 120 ∷ digits)
  pub hexadecimal : are_digits digits ≡ true
  pub address_is : digits_number digits ≡ address

-- Holds if the line defines `region`: an address, a `:`, an address that isn't lower, one or more spaces, and a name.
pub record IsLine (line : List ℕ) (region : Region) : Type 0 where
  pub start_text : List ℕ
  pub end_text : List ℕ
  pub spaces : List ℕ
  pub line_is : line ≡ start_text ++ 58 ∷ (end_text ++ 32 ∷ (spaces ++ region.name.items))
  pub start_is : IsAddress start_text region.start
  pub end_is : IsAddress end_text region.end
  pub forward : region.start ≤ region.end
  pub blank : list_all (λ b. b == 32) spaces ≡ true
  pub named : is_name region.name.items ≡ true

abbrev pub full_lines : List ℕ → List (List ℕ)
full_lines text = filter (λ line. not (length line == 0)) (lines_of text)

-- Holds if the nonempty lines of the text define the regions in the same order: at most 64, no two with the same name.
pub record IsLayout (text : List ℕ) (regions : List Region) : Type 0 where
  pub lines : AllZip IsLine (full_lines text) regions
  pub few : length regions ≤ 64
  pub named_apart : AreNamedApart regions
