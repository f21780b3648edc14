use Rattle.std.proofs.Common.{not, nat_eq}
use lib.Lanes.{chunk}
use Rattle.std.proofs.lemmas.Simd.{length-chunk, get_or-chunk}
use Rattle.nor_plan.proofs.Masks.{compared-IsMask}
use Rattle.nor_plan.proofs.lanes.differing.Goals as goal

pub returns : goal.returns
returns c =
    let a = c.args.a.now in
    let b = c.args.b.now in
    let at = c.args.at in
    compared-IsMask (λ x y. not (nat_eq x y)) (chunk at 32 a) (chunk at 32 b)
    (length-chunk at 32 a c.requires.a_within) (length-chunk at 32 b c.requires.b_within) _
    (λ i lane. rw (get_or-chunk at 32 a i 0 lane, get_or-chunk at 32 b i 0 lane))
