use Rattle.std.proofs.Common.{◌≡◌, ◌<◌, ◌≤◌, ◌+◌, ℕ, true, arith}
use mathlib.Core.Path.{fun_ext}
use Rattle.nor_model.specs.Bus.{BusState}
use Rattle.nor_model.proofs.Nature.{nature_refl, nature_then}
use Rattle.nor_driver.specs.OnlyReads.{Rested, OnlyReads, HasStopped, IsOpen}
use Rattle.nor_driver.specs.Ready.{StaysReady}
use Rattle.nor_driver.specs.Reads.{HasRead}
pub use Rattle.nor_driver.specs.ReadsInTurn.{HasOnlyRead}
use Rattle.nor_driver.proofs.ReadsInTurn.{only_reads_then, only_reads_more}
use Rattle.nor_driver.proofs.Readings.{honest_reads_by}
pub use Rattle.nor_driver.proofs.Readings.{rested_none, rested_then}

pub has_only_read-none : (state : BusState) → HasOnlyRead 0 state state
has_only_read-none state = search (arith, nature_refl state, rested_none state)

has_only_read-only_reads : (reads : ℕ) (old new : BusState) → HasOnlyRead reads old new → OnlyReads reads old new
has_only_read-only_reads reads old new has = search (honest_reads_by old new reads, has.rested, has.sent)

pub only_reads_after : (reads more most : ℕ) (old mid new : BusState) → reads + more ≤ most → HasOnlyRead reads old mid → OnlyReads more mid new → OnlyReads most old new
only_reads_after reads more most old mid new few has only_reads =
    only_reads_more (reads + more) most old new few (only_reads_then reads more old mid new (has_only_read-only_reads reads old mid has) only_reads)

pub runs_out : (reads most : ℕ) (old mid new : BusState) → reads < most → HasOnlyRead reads old mid → HasStopped 1 mid new → HasStopped most old new
runs_out reads most old mid new few has out = grind (arith, has.sent, has.nature.honest, has.nature.punctual, out)

pub has_only_read-one : {old new : BusState} → OnlyReads 1 old new → (old.honest ≡ true → HasRead old new)
    → StaysReady old new → HasOnlyRead 1 old new
has_only_read-one only_reads read polled_ready = grind arith

pub has_only_read-then : {reads more : ℕ} {old mid new : BusState} → HasOnlyRead reads old mid
    → HasOnlyRead more mid new → HasOnlyRead (reads + more) old new
has_only_read-then {old = old} {mid = mid} {new = new} has next =
    grind (arith, nature_then old mid new next.nature has.nature, rested_then old mid new)

pub same_bytes : {old new : BusState} → Rested old new → new.chip.bytes ≡ old.chip.bytes
same_bytes rested = fun_ext rested.unchanged.same.bytes

pub open_later : {size reads : ℕ} {old mid : BusState} → HasOnlyRead reads old mid → IsOpen size old → IsOpen size mid
open_later has is_open = let was = (has.rested is_open.honest).unchanged in search arith
