use Rattle.std.proofs.Common.{arith}
use Rattle.std.proofs.lemmas.Grind.{common_steps, elements}
use Rattle.nor_chip.proofs.Page.{programmed}
use Rattle.nor_chip.proofs.sim.cells.program.Goals as goal

pub returns : goal.returns
returns c =
    programmed _ _ c.saturating_sub-skipped.result c.split_at.result.0.now c.split_at.result.1.now
    c.args.bytes.now c.clear_bits.new.bytes c.clear_bits-2.new.bytes
    record {
      skips = grind (arith, common_steps);
      front_len = grind (arith, common_steps);
      back_len = grind (arith, common_steps);
      front_at = λ i within. grind (arith, common_steps, elements);
      back_at = λ i within. grind (arith, common_steps, elements);
    }
    (assumption c.clear_bits.ensures) (assumption c.clear_bits-2.ensures)
