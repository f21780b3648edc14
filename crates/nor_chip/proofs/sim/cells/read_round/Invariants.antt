use Rattle.std.proofs.Common.{◌≡◌, ℕ, ◌+◌, ◌-◌, ◌%◌, ◌<◌, ◌≤◌, length, slice_index, List}
use Rattle.nor_chip.proofs.sim.cells.read_round.Given as goal

pub record IsReadTo (at from done : ℕ) (bytes reply : List ℕ) : Type 0 where
  pub read : (i : ℕ) → i < done → slice_index reply i ≡ slice_index bytes ((at + i) % length bytes)
  pub within : done ≤ length reply
  pub from_in : from < length bytes
  pub place : done < length reply → (at + done) % length bytes ≡ from

abbrev pub invariant-loop-done : goal.invariant-loop-done
invariant-loop-done l = IsReadTo l.at l.from l.done l.bytes l.reply

abbrev pub decreases-loop-done : goal.decreases-loop-done
decreases-loop-done l = length l.reply - l.done
