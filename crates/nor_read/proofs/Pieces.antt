-- Lemmas about one piece (65,536 bytes) of the copy of a chip. A piece is read sector by sector.
use Rattle.std.proofs.Common.{◌≡◌, ◌<◌, ◌+◌, ◌-◌, ◌*◌, ◌++◌, ◌∙◌, ℕ, List, [], length, Option, refl}
use Rattle.std.proofs.Common.{append_assoc, ap, arith, inl, inr, subst, sym}
use Rattle.std.proofs.lemmas.Bool.{cases_lt}
use Rattle.std.proofs.lemmas.List.Elements.{All-append, All-nil}
use borrow.Rule.Slice.PartMut.{put_mid}
use Rattle.nor_model.specs.Exchange.{Exchange}
use Rattle.nor_model.specs.Bus.{BusState}
use Rattle.nor_driver.specs.ReadBack.{IsSectorRead}
use Rattle.nor_layout.specs.declared.ranges.Span.{Span}
use Rattle.nor_layout.specs.Sectors.{includes, has_in_sector}
use Rattle.nor_geometry.proofs.Below.{count_below-more}
use Rattle.nor_plan.proofs.Parts.{put_back}
use Rattle.nor_driver.proofs.RestsInTurn.{has_only_read-none, has_only_read-then, open_later, same_bytes}
use Rattle.nor_read.specs.Reading.{CopiesFrom, ReadsPart, ReadsPiece}
use Rattle.nor_read.proofs.Copying.{copied_same}
use Rattle.nor_read.proofs.Onward.{adds_is}

pub pieced_none : (included : Option (List Span)) (piece : ℕ) (bytes : List ℕ) (state : BusState)
    → ReadsPiece included piece 0 bytes state state 0
pieced_none included piece bytes state = record {
  counted = grind arith;
  most = omega arith;
  honest_reads = has_only_read-none state;
  only_sectors = record { later = []; is = refl; each = All-nil IsSectorRead };
  replied = λ earlier. record {
    below = λ a low. refl;
    whole = λ a from to inside. absurd (omega (arith, from, to));
    right = λ i small. absurd (omega (arith, small));
  };
  right = λ honest idle fits i small. absurd (omega (arith, small));
}

module _ {included : Option (List Span)} {bytes part : List ℕ} {earlier mid new : List Exchange} where
  copies_more : (piece k width : ℕ) → k < 16 → width ≡ 4096 → length bytes ≡ 65536 → length part ≡ 4096
      → CopiesFrom included (65536 * piece) (4096 * k) bytes earlier mid
      → CopiesFrom included (4096 * (16 * piece + k)) 4096 part mid new
      → CopiesFrom included (65536 * piece) (4096 * (k + 1)) (put_mid (4096 * k) width bytes part) earlier new
  copies_more piece k width small exact whole long has next =
      let put = put_back k width bytes part exact long (omega arith) in
      record {
        below = λ a low. next.below a (omega (arith, low)) ∙ has.below a low;
        whole = λ a from to inside. elim (cases_lt a (4096 * (16 * piece + k))) [
          | inl before ↦ ap (λ (l : List ℕ). length l) (next.below a before)
              ∙ has.whole a from (omega (arith, before)) inside
          | inr later ↦ next.whole a later (omega (arith, to)) inside
        ];
        right = λ i low. elim (cases_lt i (4096 * k)) [
          | inl before ↦ put.outside i (λ same. omega (arith, before, same)) ∙ has.right i before
              ∙ copied_same included mid new (65536 * piece + i)
              (next.below (65536 * piece + i) (omega (arith, before)))
          | inr later ↦
              let j = i - 4096 * k in
              let at : 4096 * k + j ≡ i = omega (arith, later) in
              let far : 4096 * (16 * piece + k) + j ≡ 65536 * piece + i = omega (arith, later) in
              rw at at (put.inside j (omega (arith, low, later)))
              ∙ rw far at (next.right j (omega (arith, low, later)))
        ];
      }

module _ {included : Option (List Span)} {piece k reads more : ℕ} {bytes part : List ℕ} {old mid new : BusState} where
  pub pieced_more : (width : ℕ) → k < 16 → width ≡ 4096 → length bytes ≡ 65536 → length part ≡ 4096
      → ReadsPiece included piece k bytes old mid reads
      → ReadsPart included (16 * piece + k) part mid new more
      → ReadsPiece included piece (k + 1) (put_mid (4096 * k) width bytes part) old new (reads + more)
  pieced_more width below exact whole long has reading =
      let test = has_in_sector (includes included) in
      record {
        most = grind arith;
        counted = let next = count_below-more (16 * piece + k) test in grind arith;
        honest_reads = has_only_read-then has.honest_reads reading.honest_reads;
        only_sectors = record {
          later = reading.only_sectors.later ++ has.only_sectors.later;
          is = adds_is has.only_sectors reading.only_sectors;
          each = All-append IsSectorRead reading.only_sectors.later has.only_sectors.later reading.only_sectors.each
              has.only_sectors.each;
        };
        replied = λ earlier. subst
            (CopiesFrom included (65536 * piece) (4096 * (k + 1)) (put_mid (4096 * k) width bytes part) earlier)
            (sym (append_assoc reading.only_sectors.later has.only_sectors.later earlier))
            (copies_more piece k width below exact whole long (has.replied earlier)
            (reading.replied (has.only_sectors.later ++ earlier)));
        right = λ honest idle fits i small.
            let put = put_back k width bytes part exact long (omega arith) in
            elim (cases_lt i (4096 * k)) [
              | inl before ↦ put.outside i (λ same. omega arith) ∙ has.right honest idle fits i before
              | inr later ↦
                  let j = i - 4096 * k in
                  let at : 4096 * k + j ≡ i = omega arith in
                  let far : 4096 * (16 * piece + k) + j ≡ 65536 * piece + i = omega arith in
                  let now = open_later has.honest_reads (record { honest = honest; idle = idle; same = refl }) in
                  let same = now.same in
                  rw at at (put.inside j (omega arith))
                  ∙ rw (same_bytes (has.honest_reads.rested honest), far)
                  at (reading.right now.honest now.idle (omega arith) j (omega arith))
            ];
      }
