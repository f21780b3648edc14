-- A text defines regions if and only if it is in the grammar. This is proved line by line.
use Rattle.std.proofs.Common.{◌≡◌, ◌≢◌, ◌∙◌, ℕ, ◌+◌, ◌<◌, ◌≤◌, Bool, false, not, eqb, List, [], ◌∷◌, ◌++◌, length}
use Rattle.std.proofs.Common.{filter, append_assoc, Result, Ok, Err, refl, sym, ap, inl, inr, arith}
use Rattle.std.specs.Str.{bytes_eq}
use Rattle.std.specs.List.{AllByRecursion, AllZip}
use Rattle.std.proofs.lemmas.Bool.{cases_Bool}
use Rattle.std.proofs.lemmas.List.{length-append, append-nil}
use Rattle.std.proofs.lemmas.List.Folds.{list_any-append}
use Rattle.std.proofs.lemmas.List.Sums.{count_by-le-length}
use Rattle.std.proofs.lemmas.List.Splits.{length-slice_split}
use Rattle.std.proofs.lemmas.Slice.Eq.{bytes_eq-Decides}
use Rattle.std.proofs.lemmas.Bool.Decides.{nat_tests}
use Rattle.nor_layout.specs.declared.region.Region.{Region}
use Rattle.nor_layout.specs.declared.fault.LineFault.{LineFault}
use Rattle.nor_layout.specs.declared.fault.LayoutFault.{LayoutFault}
use Rattle.nor_layout.specs.declared.fault.LayoutFault.TheVariants.{Memory}
use Rattle.nor_layout.specs.Line.{line_says}
use Rattle.nor_layout.specs.Text.{◌>>=◌, lines_of, is_region_named, joins_or_fault, with_line, lines_say, layout_says}
use Rattle.nor_layout.specs.Text.{AreNamedApart, AreRegions, ReadsLayout, AsksMemory}
use Rattle.nor_layout.specs.Grammar.{IsLine, IsLayout}
use Rattle.nor_layout.specs.Steps.{AddsRegion}
use Rattle.nor_layout.proofs.LineLaws.{line_says-taken, line_says-found}

bytes_eq-swap : (a b : List ℕ) → bytes_eq a b ≡ bytes_eq b a
bytes_eq-swap a b = grind (arith, bytes_eq-Decides a b, bytes_eq-Decides b a)

push_apart : (regions : List Region) (region : Region) → AreNamedApart regions
    → is_region_named regions region.name.items ≡ false → AreNamedApart (regions ++ region ∷ [])
push_apart [] region apart once = (refl, tt)
push_apart (first ∷ regions) region apart once =
    let swap = bytes_eq-swap region.name.items first.name.items in
    let named = list_any-append (λ (r : Region). bytes_eq r.name.items first.name.items) regions (region ∷ []) in
    (grind arith, push_apart regions region apart.1 (grind arith))

named_before : (regions : List Region) (region : Region) (more : List Region) → AreNamedApart (regions ++ region ∷ more)
    → is_region_named regions region.name.items ≡ false
named_before [] region more apart = refl
named_before (first ∷ regions) region more apart =
    let swap = bytes_eq-swap first.name.items region.name.items in
    let named = list_any-append (λ (r : Region). bytes_eq r.name.items first.name.items) regions (region ∷ more) in
    grind (arith, named_before regions region more apart.1)

push_forward : (regions : List Region) (region : Region) → AllByRecursion (λ (r : Region). r.start ≤ r.end) regions
    → region.start ≤ region.end → AllByRecursion (λ (r : Region). r.start ≤ r.end) (regions ++ region ∷ [])
push_forward [] region all forward = (forward, tt)
push_forward (first ∷ regions) region all forward = (all.0, push_forward regions region all.1 forward)

pub no_regions : AreRegions []
no_regions = record { few = omega arith; forward = tt; named_apart = tt }

pub push_region : (regions : List Region) (region : Region) → AreRegions regions → region.start ≤ region.end
    → is_region_named regions region.name.items ≡ false → length regions < 64 → AreRegions (regions ++ region ∷ [])
push_region regions region kept forward once room = record {
  few = omega (arith, length-append regions (region ∷ []));
  forward = push_forward regions region kept.forward forward;
  named_apart = push_apart regions region kept.named_apart once;
}

joined : (regions all : List Region) (n : ℕ) (said : Result Region LineFault)
    (follows : List Region → Result (List Region) LayoutFault) → joins_or_fault regions n said >>= follows ≡ Ok all
    → (region : Region) × (said ≡ Ok region) × (is_region_named regions region.name.items ≡ false)
    × (length regions < 64) × (follows (regions ++ region ∷ []) ≡ Ok all)
joined regions all n said follows e = grind (arith, nat_tests)

abbrev is_full : List ℕ → Bool
is_full line = not (eqb (length line) 0)

abbrev RestDefines : (lines : List (List ℕ)) (regions all : List Region) → Type 0
RestDefines lines regions all =
    AreRegions all × ((rest : List Region) × (all ≡ regions ++ rest) × AllZip IsLine (filter is_full lines) rest)

lines_say-found : (lines : List (List ℕ)) (regions all : List Region) (n : ℕ) → AreRegions regions
    → lines_say regions n lines ≡ Ok all → RestDefines lines regions all
unfolding lines_say with_line
lines_say-found [] regions all n kept e =
    let same : regions ≡ all = cc in
    rw (← same) (kept, ([], sym (append-nil regions), tt))
lines_say-found (line ∷ lines) regions all n kept e = elim (cases_Bool (eqb (length line) 0)) [
  | inl empty ↦ rw empty (lines_say-found lines regions all (n + 1) kept (rw empty at e))
  | inr full ↦
      let is = joined regions all n (line_says line) (λ more. lines_say more (n + 1) lines) (rw full at e) in
      let line_is = line_says-found line is.0 is.1 in
      let more = push_region regions is.0 kept line_is.forward is.2 is.3 in
      let later = lines_say-found lines (regions ++ is.0 ∷ []) all (n + 1) more is.4 in
      let all_is = later.1.1 ∙ append_assoc regions (is.0 ∷ []) later.1.0 in
      rw full (later.0, (is.0 ∷ later.1.0, all_is, (line_is, later.1.2)))
]

pub with_line-keeps : (regions more : List Region) (n : ℕ) (line : List ℕ) → AreRegions regions
    → with_line regions n line ≡ Ok more → AreRegions more
unfolding lines_say
with_line-keeps regions more n line kept e =
    (lines_say-found (line ∷ []) regions more n kept
    (ap (λ (r : Result (List Region) LayoutFault). r >>= λ (all : List Region). lines_say all (n + 1) []) e)).0

pub layout_says-found : (text : List ℕ) (regions : List Region) → layout_says text ≡ Ok regions → IsLayout text regions
unfolding layout_says
layout_says-found text regions e =
    let define = lines_say-found (lines_of text) [] regions 1 no_regions e in
    record { lines = rw define.1.1 define.1.2; few = define.0.few; named_apart = define.0.named_apart }

lines_say-taken : (all : List Region) → length all ≤ 64 → AreNamedApart all → (lines : List (List ℕ))
    (regions rest : List Region) (n : ℕ) → AllZip IsLine (filter is_full lines) rest → all ≡ regions ++ rest
    → lines_say regions n lines ≡ Ok all
unfolding lines_say with_line
lines_say-taken all few apart [] regions [] n are is = rw (is, append-nil) refl
lines_say-taken all few apart [] regions (region ∷ rest) n are is = absurd are
lines_say-taken all few apart (line ∷ lines) regions [] n are is =
    grind (arith, lines_say-taken all few apart lines regions [] (n + 1))
lines_say-taken all few apart (line ∷ lines) regions (region ∷ rest) n are is =
    let says = line_says-taken line region in
    let once = named_before regions region rest (rw is at apart) in
    let room = length-append regions (region ∷ rest) in
    let more = append_assoc regions (region ∷ []) rest in
    let later = lines_say-taken all few apart lines (regions ++ region ∷ []) rest (n + 1) in
    grind (arith, nat_tests, lines_say-taken all few apart lines regions (region ∷ rest) (n + 1))

pub reads_taken : (text : List ℕ) (result : Result (List Region) LayoutFault) → ReadsLayout result (layout_says text)
    → (regions : List Region) → IsLayout text regions → ReadsLayout result (Ok regions)
unfolding layout_says
reads_taken text result reads regions is =
    let says = lines_say-taken regions is.few is.named_apart (lines_of text) [] regions 1 is.lines refl in
    rw says at reads

pub length-lines_of : (text : List ℕ) → length (lines_of text) ≤ length text + 1
length-lines_of text = omega (arith, length-slice_split (λ b. eqb b 10) text, count_by-le-length (λ b. eqb b 10) text)

abbrev pub LinesDefine : List (List ℕ) → ℕ → List Region → Type 0
LinesDefine lines n regions = (after : List (List ℕ)) → lines_say [] 1 (lines ++ after) ≡ lines_say regions (n + 1) after

pub define_all : (text : List ℕ) (lines : List (List ℕ)) (n : ℕ) (regions : List Region) → lines ≡ lines_of text
    → LinesDefine lines n regions → layout_says text ≡ Ok regions
unfolding layout_says lines_say
define_all text lines n regions is define = ap (lines_say [] 1) (sym (append-nil lines ∙ is)) ∙ define []

module _ (before : List (List ℕ)) (n : ℕ) (line : List ℕ) (regions : List Region) (define : LinesDefine before n regions) where
  onward : (said : Result (List Region) LayoutFault) → with_line regions (n + 1) line ≡ said → (after : List (List ℕ))
      → lines_say [] 1 (before ++ line ∷ after) ≡ said >>= λ more. lines_say more (n + 1 + 1) after
  unfolding lines_say
  onward said e after =
      define (line ∷ after) ∙ ap (λ (r : Result (List Region) LayoutFault). r >>= λ (more : List Region). lines_say
      more (n + 1 + 1) after) e

  pub define_more : (more : List Region) → with_line regions (n + 1) line ≡ Ok more
      → LinesDefine (before ++ line ∷ []) (n + 1) more
  define_more more e after = ap (lines_say [] 1) (append_assoc before (line ∷ []) after) ∙ onward (Ok more) e after

  module _ (text : List ℕ) (after : List (List ℕ)) (lines_are : lines_of text ≡ before ++ line ∷ after)
      (counted : length before ≡ n) where
    returned : (said : Result (List Region) LayoutFault) → with_line regions (n + 1) line ≡ said
        → layout_says text ≡ said >>= λ more. lines_say more (n + 1 + 1) after
    unfolding layout_says
    returned said e = ap (lines_say [] 1) lines_are ∙ onward said e after

    asks_memory : (region : Region) → with_line regions (n + 1) line ≡ Ok (regions ++ region ∷ []) → AsksMemory text
    unfolding lines_say
    asks_memory region e = record {
      before = before;
      line = line;
      after = after;
      lines_are = lines_are;
      regions = regions;
      whole = ap (lines_say [] 1) (sym (append-nil before)) ∙ define [];
      region = region;
      more = rw counted e;
    }

    define_one : (region : Region) → AreRegions regions → with_line regions (n + 1) line ≡ Ok (regions ++ region ∷ [])
        → layout_says text ≢ Ok []
    define_one region kept e none =
        let more = regions ++ region ∷ [] in
        let kept_more = with_line-keeps regions more (n + 1) line kept e in
        let later = lines_say-found after more [] (n + 1 + 1) kept_more (sym (returned (Ok more) e) ∙ none) in
        omega (arith, ap length later.1.1, length-append more later.1.0, length-append regions (region ∷ []))

    pub reads_fault : (new : List Region) (fault : LayoutFault) → AreRegions regions
        → AddsRegion regions new (Err fault) (with_line regions (n + 1) line)
        → ReadsLayout (Err fault) (layout_says text) × (fault ≡ Memory → AsksMemory text)
    reads_fault new Memory kept e = (define_one e.0 kept e.1, λ asks. asks_memory e.0 e.1)
    reads_fault new fault kept e = (returned (Err fault) e, λ asks. absurd (cc))
