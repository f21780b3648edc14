use Rattle.std.proofs.Common.{not, nat_eq, bit_and, ◌∙◌, sym, arith}
use lib.Lanes.{chunk, zip2}
use Rattle.std.proofs.lemmas.Simd.{length-chunk, length-zip2, get_or-chunk, get_or-zip2}
use Rattle.nor_plan.proofs.Masks.{compared-IsMask}
use Rattle.nor_plan.proofs.lanes.rising.Goals as goal

pub returns : goal.returns
returns c =
    let at = c.args.at in
    let old = chunk at 32 c.args.old.now in
    let target = chunk at 32 c.args.target.now in
    let old_long = length-chunk at 32 c.args.old.now c.requires.old_within in
    let target_long = length-chunk at 32 c.args.target.now c.requires.target_within in
    compared-IsMask (λ x y. not (nat_eq x y)) (zip2 bit_and target old) target
    (length-zip2 bit_and target old (target_long ∙ sym old_long) ∙ target_long) target_long _
    (λ i lane.
    let kept = get_or-zip2 bit_and target old i 0 0 0 (omega arith) (omega arith) in
    rw (kept, get_or-chunk at 32 c.args.old.now i 0 lane, get_or-chunk at 32 c.args.target.now i 0 lane))
