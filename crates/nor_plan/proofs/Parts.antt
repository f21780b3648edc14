use Rattle.std.proofs.Common.{◌≡◌, ◌≢◌, ◌<◌, ◌≤◌, ◌+◌, ◌*◌, ◌/◌, ◌∙◌, ℕ, List, length, take, drop, slice_index, subst, sym, ap, arith, inl, inr}
use Rattle.std.proofs.lemmas.Bool.{cases_lt}
use Rattle.std.proofs.lemmas.List.{get_or-take, get_or-drop, length-take-le, length-drop}
use Rattle.std.proofs.lemmas.Simd.{put_chunk_is, get_or-put_chunk_at, get_or-put_chunk_below, get_or-put_chunk_above}
use borrow.Rule.Slice.PartMut.{put_mid}

pub record HasPart (n : ℕ) (part : List ℕ) (old new : List ℕ) : Type 0 where
  pub inside : (i : ℕ) → i < 4096 → slice_index new (4096 * n + i) ≡ slice_index part i
  pub outside : (a : ℕ) → a / 4096 ≢ n → slice_index new a ≡ slice_index old a

pub cut_out : (image : List ℕ) (start k i : ℕ) → k ≡ 4096 → i < 4096 → slice_index (take k (drop start image)) i ≡ slice_index image (start + i)
cut_out image start k i long below = get_or-take k (drop start image) i 0 (omega arith) ∙ get_or-drop start image i 0

pub part_long : (image : List ℕ) (start k : ℕ) → k ≡ 4096 → start + 4096 ≤ length image → length (take k (drop start image)) ≡ 4096
part_long image start k long fits = length-take-le k (drop start image) (let later = length-drop start image in omega arith) ∙ long

pub put_back : (n k : ℕ) (image part : List ℕ) → k ≡ 4096 → length part ≡ 4096 → 4096 * n + 4096 ≤ length image → HasPart n part image (put_mid (4096 * n) k image part)
put_back n k image part long whole fits =
    let at = 4096 * n in
    let put = put_chunk_is at image part (omega arith) ∙ ap (λ (j : ℕ). put_mid at j image part) (whole ∙ sym long) in
    subst (HasPart n part image) put (record {
      inside = λ i below. get_or-put_chunk_at at image part i 0 (omega arith) (omega arith);
      outside = λ a other. elim (cases_lt a at) [
        | inl before ↦ get_or-put_chunk_below at image part a 0 before
        | inr after ↦ get_or-put_chunk_above at image part a 0 (omega arith)
      ];
    })
