use Rattle.std.proofs.Common.{◌∙◌, ◌≡◌, ◌++◌, ap, drop, length, List, ℕ, arith, refl}
use Rattle.std.proofs.lemmas.List.{length-append, append-nil}
use borrow.Rule.Slice.PartMut.{put_mid}
use Rattle.nor_journal.specs.Text.{head}
use Rattle.nor_journal.proofs.Heads.{length-put, put_after}
use Rattle.nor_journal.proofs.head.head_bytes.Goals as goal

-- If the parts of a header are written into a buffer one after another, the buffer begins with them in this order.
written : (magic left id unique status size : List ℕ) → length magic ≡ 8 → length id ≡ 3 → length unique ≡ 8
    → length status ≡ 2
    → put_mid 21 4 (put_mid 19 2 (put_mid 11 8 (put_mid 8 3 (magic ++ left) id) unique) status) size
    ≡ ((((magic ++ id) ++ unique) ++ status) ++ size) ++ drop 4 (drop 2 (drop 8 (drop 3 left)))
written magic left id unique status size eight three more two =
    let one = length-append magic id in let other = length-append (magic ++ id) unique in
    let last = length-append ((magic ++ id) ++ unique) status in
    rw (put_after 8 3 magic left id eight, put_after 11 8 (magic ++ id) _ unique (omega arith))
    (rw (put_after 19 2 ((magic ++ id) ++ unique) _ status (omega arith)) (put_after 21 4 _ _ size (omega arith)))

two_long : (magic left id unique : List ℕ) → length magic ≡ 8 → length left ≡ 17 → length id ≡ 3 → length unique ≡ 8
    → length (put_mid 11 8 (put_mid 8 3 (magic ++ left) id) unique) ≡ 25
two_long magic left id unique eight many three more =
    let first = length-append magic left in
    length-put 11 8 _ unique (length-put 8 3 (magic ++ left) id (omega arith) three (omega arith)) more (omega arith)

pub slice_bounds-bytes-end-4 : goal.slice_bounds-bytes-end-4
slice_bounds-bytes-end-4 c =
    rw (two_long c.copy_from_slice.new.self _ c.copy_from_slice-2.new.self c.copy_from_slice-3.new.self
    (ap length c.copy_from_slice.ensures.after) refl (omega (arith, ap length c.copy_from_slice-2.ensures.after))
    (omega (arith, ap length c.copy_from_slice-3.ensures.after))) (omega arith)

pub slice_bounds-bytes-end-5 : goal.slice_bounds-bytes-end-5
slice_bounds-bytes-end-5 c =
    rw (length-put 19 2 _ c.copy_from_slice-4.new.self (two_long c.copy_from_slice.new.self _
    c.copy_from_slice-2.new.self c.copy_from_slice-3.new.self (ap length c.copy_from_slice.ensures.after) refl
    (omega (arith, ap length c.copy_from_slice-2.ensures.after))
    (omega (arith, ap length c.copy_from_slice-3.ensures.after)))
    (omega (arith, ap length c.copy_from_slice-4.ensures.after)) (omega arith)) (omega arith)

pub returns : goal.returns
unfolding head
returns c =
    written c.copy_from_slice.new.self _ c.copy_from_slice-2.new.self c.copy_from_slice-3.new.self
    c.copy_from_slice-4.new.self _ (ap length c.copy_from_slice.ensures.after)
    (omega (arith, ap length c.copy_from_slice-2.ensures.after))
    (omega (arith, ap length c.copy_from_slice-3.ensures.after))
    (omega (arith, ap length c.copy_from_slice-4.ensures.after))
    ∙ rw (c.copy_from_slice.ensures.after, c.copy_from_slice-2.ensures.after, c.copy_from_slice-3.ensures.after)
    (rw (c.copy_from_slice-4.ensures.after, c.copy_from_slice-5.ensures.after, c.number_bytes.ensures) (append-nil _))
