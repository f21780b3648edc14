-- Lemmas on the bytes that are read from the chip for a layout.
use Rattle.std.proofs.Common.{◌≡◌, ◌∙◌, ◌∷◌, [], ℕ, List, MatchOption, None, Ok, Option, Some, arith, false, inl, inr, refl, subst, sym, true}
use Rattle.std.proofs.lemmas.Bool.{false≢true}
use Rattle.nor_model.specs.Bus.{BusState}
use Rattle.nor_layout.specs.Ranges.{IsSetOf, MakeNoSet, has_backwards}
use Rattle.nor_layout.specs.declared.ranges.Span.{Span}
use Rattle.nor_probe.specs.declared.probes.Found.{Found}
use Rattle.nor_probe.specs.declared.table.ChipName.{ChipName}
use Rattle.nor_args.specs.Text.{Text}
use Rattle.nor_args.specs.declared.job.LayoutForm.{LayoutForm}
use Rattle.nor_args.specs.declared.job.LayoutForm.TheVariants as form
use Rattle.nor_jobs.specs.Finding.{HasIdentified}
use Rattle.serprog_runs.specs.ChipLayouts.{AreReadFor, HasFoundFirst, HasReadLayout, IsReadFirst, IsShown, descriptor_span}
use Rattle.serprog_runs.specs.Connected.{Seen}
use Rattle.board_jobs.specs.Sends.{KeepsSent}

is_set : IsSetOf (descriptor_span ∷ []) (descriptor_span ∷ [])
is_set = record {
  ranges = record { few = omega arith; apart = (omega arith, tt, tt) };
  same = λ a. refl;
}

pub descriptor_read : (made : Option (List Span))
    → MatchOption made (MakeNoSet (descriptor_span ∷ []))
    (λ set. (has_backwards (descriptor_span ∷ []) ≡ false) × IsSetOf (descriptor_span ∷ []) set)
    → AreReadFor form.Descriptor made
descriptor_read None (inl backwards) = absurd (false≢true backwards)
descriptor_read None (inr none) = absurd (none _ is_set)
descriptor_read (Some set) is = is.1

abbrev pub found_first : (named : Option ChipName) (layout : LayoutForm) (old found : BusState) (chip : Found)
    (ranges : Option (List Span)) → HasIdentified named old found (Ok chip) → AreReadFor layout ranges
    → HasFoundFirst named layout old
found_first named layout old found chip ranges identified for_layout = record {
  found = found;
  chip = chip;
  identified = identified;
  ranges = ranges;
  for_layout = for_layout;
}

pub layout_reads : (named : Option ChipName) (layout : LayoutForm) (old new : BusState) (bytes : List ℕ)
    → HasReadLayout named layout old new bytes → KeepsSent old new
layout_reads named layout old new bytes read =
    read.read.always.only_reads.sent ∙ read.first.identified.always.only_reads.sent

pub shown_read : {B : Type 0} (seen : Seen B) (device : Text) (named : Option ChipName) (found : Option LayoutForm)
    (layout : LayoutForm) (bytes : List ℕ) → found ≡ Some layout → IsReadFirst seen device named layout bytes
    → IsShown seen device named found (Some bytes)
shown_read seen device named found layout bytes is read =
    subst (λ (found : Option LayoutForm). IsShown seen device named found (Some bytes)) (sym is) read

pub shown_none : {B : Type 0} (seen : Seen B) (device : Text) (named : Option ChipName) (found : Option LayoutForm)
    → found ≡ None → IsShown seen device named found None
shown_none seen device named found is =
    subst (λ (found : Option LayoutForm). IsShown seen device named found None) (sym is) refl
