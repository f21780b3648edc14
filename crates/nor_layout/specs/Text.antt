use Rattle.std.specs.Prelude.{◌≡◌, ◌≢◌, ℕ, ◌+◌, ◌≤◌, ◌==◌, Bool, false, nat_lt, if◌then◌else◌, List, [], ◌∷◌, ◌++◌, length, Result, Ok, Err, ⊤}
use Rattle.std.specs.Str.{bytes_eq}
use Rattle.std.specs.List.{slice_split, list_any, AllByRecursion}
use Rattle.nor_layout.specs.declared.region.Region.{Region}
use Rattle.nor_layout.specs.declared.fault.LineFault.{LineFault}
use Rattle.nor_layout.specs.declared.fault.LineFault.TheVariants.{Twice}
use Rattle.nor_layout.specs.declared.fault.LayoutFault.{LayoutFault}
use Rattle.nor_layout.specs.declared.fault.LayoutFault.TheVariants.{InLine, TooMany, Memory}
use Rattle.nor_layout.specs.Line.{line_says}

-- The lines of a text, without their line feeds. The bytes after the last line feed are one more line, even if empty.
abbrev pub lines_of : List ℕ → List (List ℕ)
lines_of text = slice_split (λ b. b == 10) text

abbrev pub is_region_named : List Region → List ℕ → Bool
is_region_named regions name = list_any (λ region. bytes_eq region.name.items name) regions

abbrev pub joins : List Region → ℕ → Region → Result (List Region) LayoutFault
joins regions n region =
    if is_region_named regions region.name.items then Err (InLine n Twice)
    else if nat_lt (length regions) 64 then Ok (regions ++ region ∷ [])
    else Err TooMany

abbrev pub joins_or_fault : List Region → ℕ → Result Region LineFault → Result (List Region) LayoutFault
joins_or_fault regions n (Ok region) = joins regions n region
joins_or_fault regions n (Err fault) = Err (InLine n fault)

unfoldable pub with_line : List Region → ℕ → List ℕ → Result (List Region) LayoutFault
with_line regions n line = if length line == 0 then Ok regions else joins_or_fault regions n (line_says line)

-- Passes the fault of a failed step on, as `and_then` of Rust's `Result` does.
infixl 10 ◌>>=◌
abbrev pub ◌>>=◌ : {A B : Type 0} → Result A LayoutFault → (A → Result B LayoutFault) → Result B LayoutFault
(Ok x) >>= f = f x
(Err fault) >>= f = Err fault

-- The regions of all lines, or the first fault. The lines are those from `n` on; earlier lines defined `regions`.
unfoldable pub lines_say : List Region → ℕ → List (List ℕ) → Result (List Region) LayoutFault
lines_say regions n [] = Ok regions
lines_say regions n (line ∷ lines) = with_line regions n line >>= λ more. lines_say more (n + 1) lines

unfoldable pub layout_says : List ℕ → Result (List Region) LayoutFault
layout_says text = lines_say [] 1 (lines_of text)

abbrev pub AreNamedApart : List Region → Type 0
AreNamedApart [] = ⊤
AreNamedApart (region ∷ regions) = (is_region_named regions region.name.items ≡ false) × AreNamedApart regions

pub record AreRegions (regions : List Region) : Type 0 where
  pub few : length regions ≤ 64
  pub forward : AllByRecursion (λ region. region.start ≤ region.end) regions
  pub named_apart : AreNamedApart regions

-- Holds if the result of reading (`answer`) is what the text defines (`said`), or `Memory`. The result isn't `Memory`
-- if the text defines a layout without regions.
abbrev pub ReadsLayout : (answer said : Result (List Region) LayoutFault) → Type 0
ReadsLayout (Ok regions) said = said ≡ Ok regions
ReadsLayout (Err Memory) said = said ≢ Ok []
ReadsLayout (Err fault) said = said ≡ Err fault

-- Holds if reading the text allocates memory, because some line adds a region, and no earlier line has a fault.
pub record AsksMemory (text : List ℕ) : Type 0 where
  pub before : List (List ℕ)
  pub line : List ℕ
  pub after : List (List ℕ)
  pub lines_are : lines_of text ≡ before ++ line ∷ after
  pub regions : List Region
  pub whole : lines_say [] 1 before ≡ Ok regions
  pub region : Region
  pub more : with_line regions (length before + 1) line ≡ Ok (regions ++ region ∷ [])
