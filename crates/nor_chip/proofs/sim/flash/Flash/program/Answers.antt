use Rattle.std.proofs.Common.{◌≡◌, arith, ap, length, slice_index}
use Rattle.std.proofs.lemmas.List.{with_items_is}
use Rattle.std.proofs.lemmas.Grind.{common_steps}
use Rattle.nor_chip.proofs.Page.{HasPageProgrammed-le}
use Rattle.nor_chip.proofs.sim.flash.Flash.program.Goals as goal

pub returns-clause-does : goal.returns-clause-does
returns-clause-does c = search (arith, common_steps, c.program.ensures, c.begin.ensures.begins.bytes)

pub invariant_of-self-clause-bytes_in : goal.invariant_of-self-clause-bytes_in
invariant_of-self-clause-bytes_in c = λ a.
    let was = ap (λ bytes. slice_index bytes a) c.deref_mut.ensures.value in
    let less = HasPageProgrammed-le _ _ _ _ c.program.ensures a in
    let filled : length c.program.new.bytes ≡ c.args.self.now.bytes.len = grind (arith, common_steps) in
    rw (with_items_is c.args.self.now.bytes c.program.new.bytes filled) (omega (arith, c.args.self.now.bytes_in a))
