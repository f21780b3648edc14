use Rattle.std.proofs.Common.{◌∙◌}
use Rattle.nor_model.proofs.ProtectedAddresses.{protects_selected}
use Rattle.nor_model.proofs.Sizes.{is_chip_size-in_blocks}
use Rattle.nor_model.proofs.LeastCodes.{starts}
use Rattle.nor_model.specs.Guard.{is_complement, is_bottom}
use Rattle.nor_model.proofs.guard.addresses_of.Goals as goal

pub returns-clause-protects : goal.returns-clause-protects
returns-clause-protects c =
    let len = c.protected_length-len.result in
    protects_selected _ _ c.start_of-start.result len (is_chip_size-in_blocks _ c.requires.sized) c.requires.defined
    record {
      len_is = c.protected_length-len.ensures;
      start_is = λ some. (cc) ∙ starts c.args.size len (is_complement c.args.code) (is_bottom c.args.code) some;
    }
