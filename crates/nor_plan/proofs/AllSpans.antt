use Rattle.std.proofs.Common.{ℕ, zero, suc, ◌≡◌, ◌<◌, ◌≤◌, ◌+◌, ◌-◌, ◌*◌, ◌/◌, min, Bool, true, cond, List, [], ◌∷◌, All, Option, Some, None, filter, length, get_or, refl, sym, ap, ◌∙◌, inl, inr, arith}
use Rattle.std.specs.Prelude.{AllPairs, is_some, count_by}
use Rattle.std.specs.List.{cons_option, list_any, range_with_len}
use Rattle.std.proofs.lemmas.Bool.{cases_eq, cases_Bool, both_ways, and_parts, and_from, or_left, or_right, le-leb, leb-true}
use Rattle.std.proofs.lemmas.List.Folds.{Any-from_list_any}
use Rattle.std.proofs.lemmas.List.Sums.{sum_by-cons}
use Rattle.std.proofs.lemmas.List.Elements.{All-nil, All-cons, All-weaker}
use Rattle.std.proofs.lemmas.List.Kept.{AllPairs-cons}
use Rattle.nor_plan.specs.declared.page.PageSpan.{PageSpan}
use Rattle.nor_plan.specs.Bytes.{DifferAt}
use Rattle.nor_plan.specs.Span.{ends, page_span, page_differs, spans_in, spans_of, page_count}
use Rattle.nor_plan.specs.SpanFacts.{IsSpan, AreSpans, spanned_by}
use Rattle.nor_plan.proofs.Ends.{AreEnds}
use Rattle.nor_plan.proofs.PageSpans.{other, DiffersOn, page_ends}

is_some-ends : (test : ℕ → Bool) (places : List ℕ) → is_some (ends (filter test places)) ≡ list_any test places
is_some-ends test [] = refl
is_some-ends test (k ∷ ks) = elim (cases_Bool (test k)) [
  | inl passes ↦ rw passes
  | inr fails ↦ rw fails (is_some-ends test ks)
]

length-cons_option : (o : Option PageSpan) (spans : List PageSpan)
    → length (cons_option o spans) ≡ cond (is_some o) 1 0 + length spans
length-cons_option None spans = omega arith
length-cons_option (Some s) spans = omega arith

module _ (old target : List ℕ) where
  abbrev SpanFrom : ℕ → PageSpan → Type 0
  SpanFrom page s = IsSpan old target s × (page ≤ s.first / 256)

  record ArePageSpans (page count : ℕ) (spans : List PageSpan) : Type 0 where
    each : All (SpanFrom page) spans
    complete : (k : ℕ) → page ≤ k / 256 → k / 256 < page + count → DifferAt old target k → spanned_by spans k ≡ true
    rising : AllPairs (λ s t. s.last / 256 < t.first / 256) spans

  page_spans-more : (page count : ℕ) (o : Option PageSpan) (spans : List PageSpan) → AreEnds (DiffersOn old target page) o
      → ArePageSpans (page + 1) count spans → ArePageSpans page (suc count) (cons_option o spans)
  page_spans-more page count None spans none rest = record {
    each = All-weaker (SpanFrom (page + 1)) (SpanFrom page) (λ s is. (is.0, omega arith)) spans rest.each;
    complete = λ k low high differ. elim (cases_eq (k / 256) page) [
      | inl here ↦ absurd (none k (here, differ))
      | inr later ↦ rest.complete k (omega arith) (omega arith) differ
    ];
    rising = rest.rising;
  }
  page_spans-more page count (Some span) spans are rest =
      let first : span.first / 256 ≡ page = are.0.0 in
      let last : span.last / 256 ≡ page = are.1.0 in
      let is : IsSpan old target span = record {
        one_page = omega arith;
        order = (are.2 span.last are.1).0;
        first = are.0.1;
        last = are.1.1;
        outside = λ k here differ. are.2 k (omega arith, differ);
      } in
      record {
        each = All-cons (SpanFrom page) span spans (is, omega arith)
            (All-weaker (SpanFrom (page + 1)) (SpanFrom page) (λ s is. (is.0, omega arith)) spans rest.each);
        complete = λ k low high differ. elim (cases_eq (k / 256) page) [
          | inl here ↦
              let inside = are.2 k (here, differ) in
              or_left _ _ (and_from _ _ (le-leb _ _ inside.0) (le-leb _ _ inside.1))
          | inr later ↦ or_right _ _ (rest.complete k (omega arith) (omega arith) differ)
        ];
        rising = AllPairs-cons (λ s t. s.last / 256 < t.first / 256) span spans
            (All-weaker (SpanFrom (page + 1)) (λ t. span.last / 256 < t.first / 256) (λ s is. omega arith)
            spans rest.each) rest.rising;
      }

  page_spans-are : (page count : ℕ) → ArePageSpans page count (spans_in old target page count)
  page_spans-are page zero = record {
    each = All-nil (SpanFrom page);
    complete = λ k low high differ. absurd (omega arith);
    rising = λ i j d less within. absurd (omega arith);
  }
  page_spans-are page (suc count) =
      page_spans-more page count (page_span old target page) (spans_in old target (page + 1) count)
      (page_ends old target page) (page_spans-are (page + 1) count)

  length-spans_in : (page count : ℕ)
      → length (spans_in old target page count) ≡ count_by (page_differs old target) (range_with_len page count)
  length-spans_in page zero = refl
  length-spans_in page (suc count) =
      let pages = range_with_len (page + 1) count in
      let places = range_with_len (page * 256) (min 256 (length old - page * 256)) in
      length-cons_option (page_span old target page) (spans_in old target (page + 1) count)
      ∙ rw (is_some-ends (other old target) places, length-spans_in (page + 1) count)
      (sym (sum_by-cons (λ p. cond (page_differs old target p) 1 0) page pages))

  pub spans_of-AreSpans : AreSpans old target (spans_of old target)
  spans_of-AreSpans =
      let spans = spans_of old target in
      let properties = page_spans-are 0 (page_count old - 0) in
      let all : page_count old - 0 ≡ page_count old = omega arith in
      let spanned : (k : ℕ) → DifferAt old target k → spanned_by (spans_of old target) k ≡ true =
      λ k differ. properties.complete k (omega arith) (omega (arith, differ.0)) differ in
      record {
        each = All-weaker (SpanFrom 0) (IsSpan old target) (λ s is. is.0) spans properties.each;
        complete = λ k differ.
            let found = Any-from_list_any _ spans (spanned k differ) in
            let inside = and_parts _ _ found.4 in
            (found.0, found.1, found.2, found.3, (leb-true _ _ inside.0, leb-true _ _ inside.1));
        rising = properties.rising;
        others = λ k within outside. elim (cases_eq (get_or old k 0) (get_or target k 0)) [
          | inl same ↦ same
          | inr differ ↦ absurd (both_ways _ outside (spanned k (within, differ)))
        ];
        count = length-spans_in 0 (page_count old - 0)
            ∙ ap (λ n. count_by (page_differs old target) (range_with_len 0 n)) all;
      }
