use Rattle.std.proofs.Common.{◌≤◌, ◌+◌, ℕ, arith}
use Rattle.nor_model.specs.Bus.{BusState}
use Rattle.nor_model.proofs.Nature.{nature_refl, nature_then}
use Rattle.nor_driver.specs.OnlyReads.{OnlyReads}
use Rattle.nor_driver.proofs.Readings.{honest_reads_then, honest_reads_more}
pub use Rattle.nor_driver.proofs.Cuts.{same_then}
use Rattle.nor_driver.proofs.Cuts.{unchanged_none, unchanged_stays}

pub only_reads_then : (m n : ℕ) (old mid new : BusState) → OnlyReads m old mid → OnlyReads n mid new → OnlyReads (m + n) old new
only_reads_then m n old mid new first second =
    let nature = nature_then old mid new second.nature first.nature in
    let honest_reads = honest_reads_then m n old mid new first.nature.steady first.nature.punctual in
    grind (arith, nature, honest_reads, first.honest_reads, second.honest_reads)

pub only_reads_none : (state : BusState) → OnlyReads 0 state state
only_reads_none state = search (nature_refl state, unchanged_stays state state (unchanged_none state), arith)

pub only_reads_more : (m n : ℕ) (old new : BusState) → m ≤ n → OnlyReads m old new → OnlyReads n old new
only_reads_more m n old new fits only_reads = search (honest_reads_more old new m n fits, only_reads.honest_reads)

pub only_reads_within : {m n : ℕ} (most : ℕ) {old mid new : BusState} → m + n ≤ most → OnlyReads m old mid → OnlyReads n mid new
    → OnlyReads most old new
only_reads_within {m} {n} most {old} {mid} {new} fits first second =
    only_reads_more (m + n) most old new fits (only_reads_then m n old mid new first second)
