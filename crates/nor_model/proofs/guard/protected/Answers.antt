use Rattle.std.proofs.Common.{◌≡◌, rules}
use Rattle.nor_model.specs.Chip.{kept_in}
use Rattle.nor_model.specs.Guard.{protected_by, code_of}
use Rattle.nor_model.proofs.Sizes.{is_chip_size-in_blocks}
use Rattle.nor_model.proofs.ProtectedAddresses.{protected_by-end, protected_by-page_of}
use Rattle.nor_model.proofs.guard.protected.Goals as goal

pub returns-clause-ends : goal.returns-clause-ends
returns-clause-ends c = protected_by-end _ _ (is_chip_size-in_blocks c.args.size c.requires)

pub returns-clause-page : goal.returns-clause-page
returns-clause-page c =
    let result_is : c.is_protected.result ≡ protected_by c.args.size (code_of (kept_in c.args.status)) c.args.at = search rules in
    rw result_is (protected_by-page_of _ _ _ (is_chip_size-in_blocks c.args.size c.requires))
