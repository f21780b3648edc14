use Rattle.std.proofs.Common.{arith, rules}
use Rattle.std.proofs.lemmas.Grind.{common_steps}
use Rattle.nor_chip.proofs.Lines.{Appends-digits, Appends-none_left}
use Rattle.nor_chip.proofs.trace.write_digits.Goals as goal

pub loop-rest-preserved : goal.loop-rest-preserved
loop-rest-preserved g c = λ ends next. c.loop-rest.invariant ends
    (Appends-digits _ _ ends _ c.split_at.result.0.now c.split_at.result.1.now _ (grind (arith, common_steps)) (search rules) c.in_ok-write_all.ensures.bytes next)

pub returns : goal.returns
returns g c = c.loop-rest.invariant _ (Appends-none_left _ c.loop-rest.rest.now (grind (arith, common_steps)))
