use Rattle.std.proofs.Common.{ℕ, ◌≡◌, ◌≤◌, ◌+◌, Bool, true, refl, arith}
use Rattle.std.specs.Prelude.{if◌then◌else◌}
use Rattle.std.specs.List.{range_with_len}
use Rattle.std.proofs.lemmas.List.Sums.{sum_by-le-sum_by}
use Rattle.nor_geometry.specs.Below.{count_below}
use Rattle.nor_geometry.specs.Counts.{sector_count}
use Rattle.nor_model.specs.Chip.{Chip}
use Rattle.nor_model.specs.Bus.{BusState}
use Rattle.nor_driver.specs.declared.waits.OperationError.{OperationError}
use Rattle.nor_driver.specs.Waits.{OperationFails}
use Rattle.nor_driver.specs.StatusWrites.{is_status_with_code, CanWriteStatus, MayWriteStatus, status_write}
use Rattle.nor_driver.specs.Limits.{Limits, writing, SendsExactly, Leaves}
use Rattle.nor_driver.specs.Operations.{LeavesOperation, Operates}
use Rattle.nor_driver.proofs.Limits.{AreParts, IsSum}
use Rattle.nor_apply.specs.declared.changes.Changes.{Changes}
use Rattle.nor_apply.specs.declared.tally.Tally.{Tally}
use Rattle.nor_apply.specs.Within.{is_writable}
use Rattle.nor_apply.specs.Change.{MayChange}
use Rattle.nor_apply.specs.Spending.{Tallies}
use Rattle.nor_apply.specs.Applying.{touched_in, raised_in, sending, most_sent, most_applied, CanApply, LeavesApply}
use Rattle.nor_apply.proofs.InTurn.{Ran, ran_part, ran_one, ran_after, honest_now, leaves_after, fails_after}
use Rattle.nor_apply.proofs.Changing.{change_then}
use Rattle.nor_apply.proofs.ApplyingSteps.{IsIntermediate, can_write, code_change, intermediate_code}

one_fewer : (b c : Bool) → (b ≡ true → c ≡ true) → (if b then 1 else 0) ≤ (if c then 1 else 0)
one_fewer b c wider = grind arith

pub count_below-fewer : (n : ℕ) (p q : ℕ → Bool) → ((k : ℕ) → p k ≡ true → q k ≡ true) → count_below n p ≤ count_below n q
unfolding count_below
count_below-fewer n p q wider = sum_by-le-sum_by _ _ (range_with_len 0 n) (λ k. one_fewer (p k) (q k) (wider k))

pub raised_few : (changes : Changes) → ((s : ℕ) → raised_in changes s ≡ true → touched_in changes s ≡ true)
    → sector_count (raised_in changes) ≤ sector_count (touched_in changes)
raised_few changes inside = count_below-fewer 4096 (raised_in changes) (touched_in changes) inside

pub record Numbers : Type 0 where
  pub erases : ℕ
  pub programs : ℕ
  pub status_writes : ℕ

abbrev pub all_of : Numbers → ℕ
all_of n = n.erases + n.programs + n.status_writes

abbrev pub sending_these : Changes → (wanted : ℕ → ℕ) → Numbers → Limits
sending_these changes wanted n = sending changes wanted n.erases n.programs n.status_writes

-- Holds after some parts of `apply` succeeded. If `CanApply` held on a well-behaved bus, these parts left the bytes
-- `bytes` and the protection bits `code` on the chip.
pub record SoFar (changes : Changes) (wanted bytes : ℕ → ℕ) (worn : ℕ → Bool) (code : ℕ) (numbers : Numbers)
    (readings : ℕ) (old now : BusState) (transactions : ℕ) : Type 0 where
  pub ran : Ran (sending_these changes wanted numbers) readings old now
      (record { count = all_of numbers; transactions = transactions })
  pub may : old.honest ≡ true → CanApply changes wanted old.chip
      → MayChange (touched_in changes) (raised_in changes) wanted old now
  pub intermediate : old.honest ≡ true → CanApply changes wanted old.chip → IsIntermediate bytes worn code old now

abbrev pub EndsInError : (changes : Changes) (wanted : ℕ → ℕ) (old new : BusState) → OperationError → Type 0
EndsInError changes wanted old new error =
    LeavesApply changes wanted old new × OperationFails (most_applied (sector_count (touched_in changes))) old new error

module _ {changes : Changes} {wanted bytes : ℕ → ℕ} {worn : ℕ → Bool} {code : ℕ} {numbers : Numbers}
    {readings : ℕ} {old mid : BusState} {sent : ℕ}
    (so : SoFar changes wanted bytes worn code numbers readings old mid sent) where
  module _ {part : ℕ} {limits : Limits} {Can : Chip → Type 0} {May : BusState → BusState → Type 0} {new : BusState}
      (leaves : Leaves part limits Can May mid new)
      (follows : old.honest ≡ true → CanApply changes wanted old.chip → Can mid.chip
      × (May mid new → MayChange (touched_in changes) (raised_in changes) wanted mid new)) where
    then_may : old.honest ≡ true → CanApply changes wanted old.chip → Can mid.chip
        × (May mid new → MayChange (touched_in changes) (raised_in changes) wanted old new)
    then_may honest can =
        let next = follows honest can in
        (next.0, λ may. change_then so.ran.nature.steady (so.may honest can) (next.1 may))

    pub ends_in_error : {last : ℕ} {error : OperationError} → AreParts (sending_these changes wanted numbers) limits
        (most_sent changes wanted)
        → sent + part ≤ most_applied (sector_count (touched_in changes))
        → sent + last ≤ most_applied (sector_count (touched_in changes)) → OperationFails last mid new error
        → EndsInError changes wanted old new error
    ends_in_error parts fits fails_fit fails =
        (leaves_after so.ran leaves parts fits then_may, fails_after so.ran fails fails_fit)

    pub goes_on : {bytes' : ℕ → ℕ} {worn' : ℕ → Bool} {code' e p w k r : ℕ} {numbers' : Numbers} {more : Tally}
        → SendsExactly e p w mid new → Tallies k mid new more → e + p + w ≡ more.count
        → IsSum (sending_these changes wanted numbers) (record limits { erases = e; programs = p; status_writes = w })
        (sending_these changes wanted numbers') → readings + k ≤ r
        → (old.honest ≡ true → CanApply changes wanted old.chip → IsIntermediate bytes' worn' code' old new)
        → SoFar changes wanted bytes' worn' code' numbers' r old new (sent + more.transactions)
    goes_on exactly tallies counts sum reads intermediate = record {
      ran = ran_after so.ran sum (ran_part leaves exactly tallies) reads
          (omega (arith, sum.erases, sum.programs, sum.status_writes)) refl;
      may = λ honest can.
          let next = then_may honest can in next.1 (leaves.reached (honest_now so.ran honest) next.0);
      intermediate = intermediate;
    }

  module _ {code' : ℕ} {new : BusState} (leaves : LeavesOperation (status_write changes.status code') mid new)
      (writable : CanApply changes wanted old.chip → is_writable old.chip ≡ true) where
    pub code_then : old.honest ≡ true → CanApply changes wanted old.chip → CanWriteStatus changes.status mid.chip
        × (MayWriteStatus code' mid new → MayChange (touched_in changes) (raised_in changes) wanted mid new)
    code_then honest can =
        let is = so.intermediate honest can in (can_write can (writable can) is, code_change can (writable can) is)

    pub code_written : {more : ℕ} {numbers' : Numbers} → Operates (status_write changes.status code') mid new more
        → IsSum (sending_these changes wanted numbers) (writing (is_status_with_code changes.status code') 1)
        (sending_these changes wanted numbers')
        → SoFar changes wanted bytes worn code' numbers' readings old new (sent + more)
    code_written does sum =
        goes_on leaves.leaves code_then does.sends (ran_one leaves.leaves does.sends does.ends).tallies refl sum (omega arith)
        (λ honest can.
        let honest' = honest_now so.ran honest in
        intermediate_code can (writable can) (so.intermediate honest can)
        (does.done honest' (code_then honest can).0) (does.ends.idle honest'))
