use Rattle.std.proofs.Common.{refl}
use Rattle.std.proofs.lemmas.List.{get_or-replicate}
use Rattle.nor_apply.proofs.ProgrammingWhole.{sector_does, sector_leaves}
use Rattle.nor_apply.proofs.programs.program_sector.Goals as goal

pub returns-in_err-tally-clause-leaves : goal.returns-in_err-tally-clause-leaves
returns-in_err-tally-clause-leaves g c =
    sector_leaves c.in_ok-reads.ensures.loads (λ i small. get_or-replicate 4096 i 255 0 small) c.program_spans.ensures.leaves

pub returns-clause-leaves : goal.returns-clause-leaves
returns-clause-leaves g c =
    sector_leaves c.in_ok-reads.ensures.loads (λ i small. get_or-replicate 4096 i 255 0 small) c.program_spans.ensures.leaves

pub returns-clause-does : goal.returns-clause-does
returns-clause-does g c =
    sector_does c.in_ok-reads.ensures.loads (λ i small. get_or-replicate 4096 i 255 0 small) c.program_spans.ensures.leaves
    c.in_ok-tally.ensures.does refl refl
