use Rattle.std.specs.Prelude.{ℕ, ◌≡◌, ◌==◌, ◌-◌, ◌*◌, min, not, Bool, List, [], ◌∷◌, Option, Some, None, MatchOption, length, filter, count_by, slice_index}
use Rattle.std.specs.List.{filter_map, list_any, range_with_len}
use Rattle.std.specs.Int.{div_ceil}
use Rattle.nor_plan.specs.declared.page.PageSpan.{PageSpan}

abbrev pub differences : (old target : List ℕ) → (from count : ℕ) → List ℕ
differences old target from count =
    filter (λ k. not (slice_index old k == slice_index target k)) (range_with_len from count)

abbrev pub last_of : ℕ → List ℕ → ℕ
last_of k [] = k
last_of k (j ∷ js) = last_of j js

abbrev pub ends : List ℕ → Option PageSpan
ends [] = None
ends (k ∷ ks) = Some (record { first = k; last = last_of k ks })

-- The span of the page with the number `page`: from its first to its last differing byte, or `None` if no byte differs.
abbrev pub page_span : (old target : List ℕ) → ℕ → Option PageSpan
page_span old target page = ends (differences old target (page * 256) (min 256 (length old - page * 256)))

abbrev pub spans_in : (old target : List ℕ) → (page count : ℕ) → List PageSpan
spans_in old target page count = filter_map (page_span old target) (range_with_len page count)

abbrev pub page_count : List ℕ → ℕ
page_count old = div_ceil (length old) 256

abbrev pub spans_from : (old target : List ℕ) → ℕ → List PageSpan
spans_from old target page = spans_in old target page (page_count old - page)

abbrev pub spans_of : (old target : List ℕ) → List PageSpan
spans_of old target = spans_from old target 0

-- Holds if `head` is the first span from `page` on and a page from which the other spans follow, or `None` if no page
-- from `page` on has a span.
abbrev pub HeadsSpans : (old target : List ℕ) → ℕ → Option (PageSpan × ℕ) → Type 0
HeadsSpans old target page head =
    MatchOption head (spans_from old target page ≡ [])
    (λ h. spans_from old target page ≡ h.0 ∷ spans_from old target h.1)

abbrev pub page_differs : (old target : List ℕ) → ℕ → Bool
page_differs old target page =
    list_any (λ k. not (slice_index old k == slice_index target k))
    (range_with_len (page * 256) (min 256 (length old - page * 256)))

abbrev pub pages_changed : (old target : List ℕ) → ℕ
pages_changed old target = count_by (page_differs old target) (range_with_len 0 (page_count old))
