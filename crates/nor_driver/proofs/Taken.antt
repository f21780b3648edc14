use Rattle.std.proofs.Common.{◌≡◌, ◌∙◌, ℕ, Bool, true, cond, List, drop, ap, subst, arith}
use Rattle.nor_model.specs.declared.command.Command.{Command}
use Rattle.nor_model.specs.declared.command.Command.TheVariants.{Ignored}
use Rattle.nor_model.specs.Chip.{Chip}
use Rattle.nor_model.specs.Step.{is_operation}
use Rattle.nor_model.specs.Bus.{BusState}
use Rattle.nor_driver.specs.Limits.{limits_of}
use Rattle.nor_driver.specs.Operations.{operation_of, MayOperate, HasOperated, ChipOperation, LeavesOperation, Operates, command_operation}
use Rattle.nor_driver.proofs.Limits.{sends_more}

-- Holds if `out`, which ends with the data `sent`, is the command of `operation`. After a write enable, the chip
-- carries out `command` if `operation.can` holds, and nothing if `operation.ignores` holds.
pub record IsFor (out sent : List ℕ) (command : Command) (operation : ChipOperation) (chip : Chip) : Type 0 where
  pub sectors : (s : ℕ) → (limits_of out).sectors s ≡ true → operation.limits.sectors s ≡ true
  pub programmed : (a byte : ℕ) → (limits_of out).bytes a byte ≡ true → operation.limits.bytes a byte ≡ true
  pub status : (one two : ℕ) → (limits_of out).status one two ≡ true → operation.limits.status one two ≡ true
  pub numbers : ((limits_of out).erases ≡ operation.limits.erases)
      × ((limits_of out).programs ≡ operation.limits.programs)
      × ((limits_of out).status_writes ≡ operation.limits.status_writes)
  pub bytes : drop 4 out ≡ sent
  pub operates : is_operation command ≡ true
  pub takes : operation.can chip → operation_of chip out ≡ command
  pub refuses : operation.ignores chip → operation_of chip out ≡ Ignored

pub asked_at : (test value : Bool) (command : Command) {asked : Command} → asked ≡ cond test command Ignored
    → test ≡ value → asked ≡ cond value command Ignored
asked_at test value command asks is = asks ∙ ap (λ (b : Bool). cond b command Ignored) is

module _ {out sent : List ℕ} {command : Command} {operation : ChipOperation} {old new : BusState}
    (asks : IsFor out sent command operation old.chip) where
  pub leaves_as : (MayOperate command sent old new → operation.can old.chip → operation.may old new)
      → LeavesOperation (command_operation out) old new → LeavesOperation operation old new
  leaves_as effect leaves = record {
    leaves = record {
      spends = leaves.leaves.spends;
      sends = sends_more (limits_of out) operation.limits old new (grind (
        arith,
        asks.sectors,
        asks.programmed,
        asks.status,
      ))
          leaves.leaves.sends;
      reached = λ honest can.
          let is = asks.takes can in
          effect (rw asks.bytes at (subst (λ (k : Command). MayOperate k (drop 4 out) old new) is
          (leaves.leaves.reached honest (ap is_operation is ∙ asks.operates)))) can;
    };
    stirred = leaves.stirred;
    ignored = λ honest none. leaves.ignored honest (ap is_operation (asks.refuses none));
  }

  pub does_as : (HasOperated command sent old new → operation.can old.chip → operation.has old new) → (count : ℕ)
      → Operates (command_operation out) old new count → Operates operation old new count
  does_as effect count does = record {
    ends = does.ends;
    sends = rw (asks.numbers.0, asks.numbers.1, asks.numbers.2) at does.sends;
    done = λ honest can.
        let is = asks.takes can in
        effect (rw asks.bytes at (subst (λ (k : Command). HasOperated k (drop 4 out) old new) is
        (does.done honest (ap is_operation is ∙ asks.operates)))) can;
    ignored = λ honest none. does.ignored honest (ap is_operation (asks.refuses none));
  }
