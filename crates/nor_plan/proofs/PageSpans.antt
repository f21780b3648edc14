use Rattle.std.proofs.Common.{ℕ, ◌≡◌, ◌<◌, ◌≤◌, ◌+◌, ◌-◌, ◌*◌, ◌/◌, min, Bool, not, nat_eq, List, [], ◌∷◌, length, get_or, Some, None, sym, ap, ◌∙◌, arith, suc}
use lib.Lanes.{chunk}
use Rattle.std.specs.Int.{div_ceil}
use Rattle.std.proofs.lemmas.Simd.{length-chunk, get_or-chunk}
use Rattle.nor_plan.specs.declared.page.PageSpan.{PageSpan}
use Rattle.nor_plan.specs.Bytes.{AllAgree, DifferAt, IsFirstDifference, IsLastDifference}
use Rattle.nor_plan.specs.Span.{page_span, spans_from, page_count}
use Rattle.nor_plan.proofs.Masks.{other_from_test, test_from_other}
use Rattle.nor_plan.proofs.Ends.{AreEnds, ends_once, ends_like, Passes, ends_of}

abbrev pub other : List ℕ → List ℕ → ℕ → Bool
other old target k = not (nat_eq (get_or old k 0) (get_or target k 0))

module _ (old target : List ℕ) where
  abbrev pub DiffersOn : (page k : ℕ) → Type 0
  DiffersOn page k = (k / 256 ≡ page) × DifferAt old target k

  pub page_ends : (page : ℕ) → AreEnds (DiffersOn page) (page_span old target page)
  page_ends page =
      let from = page * 256 in
      let count = min 256 (length old - page * 256) in
      ends_like (Passes (other old target) from count) (DiffersOn page) (page_span old target page)
      (λ k passes. (omega arith, (omega arith, other_from_test _ _ passes.2)))
      (λ k differs.
      let within : k < length old = differs.1.0 in
      (omega arith, omega arith, test_from_other _ _ differs.1.1))
      (ends_of (other old target) from count)

  same_in_part : (start count k : ℕ) → start ≤ k → k < start + count
      → get_or (chunk start count old) (k - start) 0 ≡ get_or (chunk start count target) (k - start) 0
      → get_or old k 0 ≡ get_or target k 0
  same_in_part start count k low high same =
      let place : start + (k - start) ≡ k = omega arith in
      let part = λ (bytes : List ℕ).
      get_or-chunk start count bytes (k - start) 0 (omega arith) ∙ ap (λ j. get_or bytes j 0) place in
      sym (part old) ∙ same ∙ part target

  pub agreed_page : (page count : ℕ) → count ≡ min 256 (length old - page * 256) → page * 256 + count ≤ length old
      → AllAgree (chunk (page * 256) count old) (chunk (page * 256) count target) → None ≡ page_span old target page
  agreed_page page count size room agree =
      let long = length-chunk (page * 256) count old room in
      ends_once (DiffersOn page) None (page_span old target page)
      (λ k differs.
      let within : k < length old = differs.1.0 in
      let same = agree (k - page * 256) (omega arith) in
      differs.1.1 (same_in_part (page * 256) count k (omega arith) (omega arith) same))
      (page_ends page)

  pub bounded_page : (page count first last : ℕ) → count ≡ min 256 (length old - page * 256)
      → page * 256 + count ≤ length old
      → IsFirstDifference (chunk (page * 256) count old) (chunk (page * 256) count target) first
      → IsLastDifference (chunk (page * 256) count old) (chunk (page * 256) count target) last
      → Some (record { first = page * 256 + first; last = page * 256 + last }) ≡ page_span old target page
  bounded_page page count first last size room f l =
      let long = length-chunk (page * 256) count old room in
      let start = page * 256 in
      let differ = λ (k : ℕ) (within : k < count) (same : get_or old (start + k) 0 ≡ get_or target (start + k) 0).
      get_or-chunk (page * 256) count old k 0 within ∙ same ∙ sym (get_or-chunk (page * 256) count target k 0 within) in
      let in_first : first < count = omega (arith, f.within) in
      let in_last : last < count = omega (arith, l.within) in
      ends_once (DiffersOn page) _ (page_span old target page) (
        (omega arith, (omega arith, λ same. f.differs (differ first in_first same))),
        (omega arith, (omega arith, λ same. l.differs (differ last in_last same))),
        λ k differs.
            let within : k < length old = differs.1.0 in
            let same = same_in_part (page * 256) count k (omega arith) (omega arith) in
            let from : ¬ (k < page * 256 + first) = λ before.
            differs.1.1 (same (f.before (k - page * 256) (omega arith))) in
            let upto : ¬ (page * 256 + last < k) = λ after.
            differs.1.1 (same (l.after (k - page * 256) (omega arith) (omega arith))) in
            omega arith,
      )
      (page_ends page)

  pub spans_from-end : (page : ℕ) → page_count old ≤ page → spans_from old target page ≡ []
  spans_from-end page past = let none : page_count old - page ≡ 0 = omega arith in rw none

  pages_left : (page : ℕ) → page < page_count old → page_count old - page ≡ suc (page_count old - (page + 1))
  pages_left page there = omega arith

  pub spans_from-none : (page : ℕ) → page < page_count old → page_span old target page ≡ None
      → spans_from old target (page + 1) ≡ spans_from old target page
  spans_from-none page there none = rw (pages_left page there, none)

  pub spans_from-some : (page : ℕ) (span : PageSpan) → page < page_count old → page_span old target page ≡ Some span
      → spans_from old target page ≡ span ∷ spans_from old target (page + 1)
  spans_from-some page span there some = rw (pages_left page there, some)

pub page_within : (length page : ℕ) → page < div_ceil length 256 → page * 256 < length
page_within length page there = omega arith

pub ruleset page_steps = (spans_from-end, spans_from-none, spans_from-some, page_within)
