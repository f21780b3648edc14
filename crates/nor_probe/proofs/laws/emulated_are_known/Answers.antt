use Rattle.nor_probe.proofs.Emulated.{emulated_known, further_known, makers_emulated, renumbered_known}
use Rattle.nor_probe.proofs.laws.emulated_are_known.Goals as goal

pub returns-clause-made : goal.returns-clause-made
returns-clause-made c = makers_emulated

pub returns-clause-known : goal.returns-clause-known
returns-clause-known c = emulated_known

pub returns-clause-further : goal.returns-clause-further
returns-clause-further c = further_known

pub returns-clause-renumbered : goal.returns-clause-renumbered
returns-clause-renumbered c = renumbered_known
