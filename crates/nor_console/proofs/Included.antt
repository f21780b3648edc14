-- Lemmas about the faults of including regions: the layout's text has a fault, or a name is unknown.
use Rattle.std.proofs.Common.{◌≡◌, ◌∙◌, ℕ, ◌+◌, Bool, false, true, List, [], ◌∷◌, None, Option, Some, Result, Ok, Err, arith}
use Rattle.std.proofs.Common.{find, not, option_map, refl, subst, sym, unwrap_or}
use Rattle.std.proofs.lemmas.Bool.{false≢true}
use Rattle.std.specs.Borrow.{Bor}
use Rattle.std.specs.List.{list_all}
use Rattle.std.specs.Prelude.{⊤}
use Rattle.nor_layout.specs.declared.fault.LayoutFault.{LayoutFault}
use Rattle.nor_layout.specs.declared.fault.LayoutFault.TheVariants as layout
use Rattle.nor_layout.specs.declared.region.Region.{Region}
use Rattle.nor_layout.specs.Grammar.{IsLayout}
use Rattle.nor_layout.specs.Included.{are_known, names_of}
use Rattle.nor_layout.specs.Text.{◌>>=◌, AsksMemory, ReadsLayout, is_region_named, layout_says, lines_of, lines_say, with_line}
use Rattle.nor_args.specs.Text.{Text}
use Rattle.nor_args.specs.declared.job.LayoutForm.{LayoutForm}
use Rattle.nor_args.specs.declared.job.LayoutForm.TheVariants as form
use Rattle.nor_args.specs.declared.job.Regions.{Regions}
use Rattle.nor_files.specs.Files.{View}
use Rattle.nor_console.specs.Requests.{FailsToReadLayout, HasLayout, IsLayoutOf}
use Rattle.nor_console.specs.Requests.{IsLayoutText, IsUnparsed, LacksLayout, first_unknown}
use Rattle.nor_console.specs.declared.messages.Fault.{Fault}
use Rattle.nor_console.specs.declared.messages.Fault.TheVariants as end

line_named : (regions : List Region) (n : ℕ) (line : List ℕ) → with_line regions n line ≡ Err layout.NoRegion → ⊥
unfolding with_line
line_named regions n line e = grind arith

step_named : (said : Result (List Region) LayoutFault) (next : List Region → Result (List Region) LayoutFault)
    → (said ≡ Err layout.NoRegion → ⊥) → ((more : List Region) → next more ≡ Err layout.NoRegion → ⊥)
    → (said >>= next) ≡ Err layout.NoRegion → ⊥
step_named said next now later e = grind arith

lines_named : (lines : List (List ℕ)) (regions : List Region) (n : ℕ) → lines_say regions n lines ≡ Err layout.NoRegion → ⊥
unfolding lines_say
lines_named [] regions n e = cc
lines_named (line ∷ lines) regions n e =
    step_named (with_line regions n line) (λ more. lines_say more (n + 1) lines) (line_named regions n line)
    (λ more f. lines_named lines more (n + 1) f) e

text_named : (text : List ℕ) → layout_says text ≡ Err layout.NoRegion → ⊥
unfolding layout_says
text_named text e = lines_named (lines_of text) [] 1 e

module _ (text : List ℕ) where
  pub is_unparsed : (fault : LayoutFault) → ReadsLayout (Err fault) (layout_says text)
      → (fault ≡ layout.Memory → AsksMemory text)
      → ((regions : List Region) → IsLayout text regions → ReadsLayout (Err fault) (Ok regions)) → IsUnparsed text fault
  is_unparsed layout.Memory reads asks taken = asks refl
  is_unparsed layout.NoRegion reads asks taken = absurd (text_named text reads)
  is_unparsed layout.TooMany reads asks taken = record { none = λ regions is. (let e = taken regions is in cc); first = reads }
  is_unparsed (layout.InLine line fault) reads asks taken =
      record { none = λ regions is. (let e = taken regions is in cc); first = reads }

all_pass : (test : List ℕ → Bool) (xs : List (List ℕ)) → find (λ x. not (test x)) xs ≡ None → list_all test xs ≡ true
all_pass test [] none = refl
all_pass test (x ∷ xs) none = grind (arith, all_pass test xs)

pub all_known : (regions : List Region) (names : List ℕ) → first_unknown regions names ≡ None
    → are_known regions names ≡ true
all_known regions names none = all_pass (is_region_named regions) (names_of names) none

pub named_unknown : (regions : List Region) (names : List ℕ) (found : Option (Bor Text)) (or : Bor Text)
    → option_map (λ name. name.now) found ≡ first_unknown regions names → are_known regions names ≡ false
    → first_unknown regions names ≡ Some (unwrap_or found or).now
named_unknown regions names None or is unknown = absurd (false≢true (sym unknown ∙ all_known regions names (sym is)))
named_unknown regions names (Some name) or is unknown = sym is

abbrev IsOfLayout : Fault → Type 0
IsOfLayout (end.Layout fault) = ⊤
IsOfLayout (end.Map fault) = ⊤
IsOfLayout fault = ⊥

lacks-only : (of : LayoutForm) (text : List ℕ) (fault : Fault) → LacksLayout of text fault → IsOfLayout fault
lacks-only form.Lines text (end.Layout fault) is = tt
lacks-only form.Words text (end.Layout fault) is = tt
lacks-only form.Fmap text (end.Map fault) is = tt
lacks-only form.Descriptor text (end.Map fault) is = tt
lacks-only _ text _ is = absurd is

module _ (view : View) (shown : Option (List ℕ)) (regions : Regions) (name : Bor Text) (text : List ℕ)
    (named : regions.layout ≡ Some name) (read : IsLayoutText view None (Some name) text) where
  is-text : IsLayoutText view shown regions.layout text
  is-text = subst (λ (file : Option (Bor Text)). IsLayoutText view shown file text) (sym named) read

  pub layout_read : (layout : List Region) → HasLayout regions.form text layout → IsLayoutOf view shown regions layout
  layout_read layout has = record { text = text; read = is-text; has = has }

  pub layout_fails : (fault : Fault) → LacksLayout regions.form text fault → FailsToReadLayout view shown regions fault
  layout_fails (end.Layout fault) why = record { text = text; read = is-text; why = why }
  layout_fails (end.Map fault) why = record { text = text; read = is-text; why = why }
  layout_fails _ why = absurd (lacks-only regions.form text _ why)
