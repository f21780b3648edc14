use Rattle.std.proofs.Common.{ℕ, arith, ap, ◌∙◌, ◌/◌, ◌%◌, false}
use Rattle.std.specs.Prelude.{slice_index, ◌==◌}
use Rattle.nor_model.proofs.StatusBits.{wel_set}
use Rattle.std.proofs.lemmas.Grind.{common_steps}
use Rattle.nor_model.proofs.Round.{get_or-replicate_all}
use Rattle.nor_chip.proofs.sim.SimBus.new.Goals as goal

pub returns-clause-starts : goal.returns-clause-starts
returns-clause-starts c =
    let latch = c.contains.ensures tt
    ∙ (wel_set c.of-status.result.one.0 ∙ ap (λ bytes. slice_index bytes 0 / 2 % 2 == 1) c.of-status.ensures) in
    search (arith, common_steps, c.new.ensures, latch, λ (s : ℕ). get_or-replicate_all 4096 s false)
