use Rattle.std.specs.Prelude.{ℕ, ◌≡◌, ◌<◌, ◌≤◌, ◌/◌, Bool, false, ◌&&◌, nat_le, List, length, slice_index, All, Any, AllPairs}
use Rattle.std.specs.List.{list_any}
use Rattle.nor_plan.specs.declared.page.PageSpan.{PageSpan}
use Rattle.nor_plan.specs.Bytes.{DifferAt}
use Rattle.nor_plan.specs.Span.{pages_changed}

pub record IsSpan (old target : List ℕ) (span : PageSpan) : Type 0 where
  pub one_page : span.first / 256 ≡ span.last / 256
  pub order : span.first ≤ span.last
  pub first : DifferAt old target span.first
  pub last : DifferAt old target span.last
  pub outside : (k : ℕ) → k / 256 ≡ span.first / 256 → DifferAt old target k → (span.first ≤ k) × (k ≤ span.last)

abbrev pub is_within_span : ℕ → PageSpan → Bool
is_within_span k span = nat_le span.first k && nat_le k span.last

abbrev pub spanned_by : List PageSpan → ℕ → Bool
spanned_by spans k = list_any (is_within_span k) spans

pub record AreSpans (old target : List ℕ) (spans : List PageSpan) : Type 0 where
  pub each : All (IsSpan old target) spans
  pub complete : (k : ℕ) → DifferAt old target k → Any (λ span. (span.first ≤ k) × (k ≤ span.last)) spans
  pub rising : AllPairs (λ span later. span.last / 256 < later.first / 256) spans
  pub others : (k : ℕ) → k < length old → spanned_by spans k ≡ false → slice_index old k ≡ slice_index target k
  pub count : length spans ≡ pages_changed old target
