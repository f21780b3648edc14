use Rattle.std.proofs.Common.{refl}
use Rattle.std.proofs.lemmas.Grind.{common_steps}
use Rattle.std.proofs.Common.{arith}
use Rattle.nor_driver.proofs.reads.read_id.Goals as goal

pub returns-clause-does : goal.returns-clause-does
returns-clause-does g c =
    let reads = c.in_ok-read.ensures.does in record {
      answered = record { out = _; asks = refl; history = reads.history };
      read = reads.read;
      replied = grind (arith, common_steps);
    }
