use Rattle.std.proofs.Common.{◌≡◌, ℕ, List, length, refl, sym, subst}
use Rattle.nor_model.specs.Bus.{BusState, IsHonestFor, AtStop}
use Rattle.nor_model.specs.Passed.{Passes}
use Rattle.nor_model.specs.Sent.{Sent}
use Rattle.nor_buses.specs.SameChip.{checked_by}
use Rattle.nor_buses.proofs.AfterRead.{stopped_after}
use Rattle.nor_buses.proofs.ReadsKeep.{stops_at, on_err}
use Rattle.nor_buses.proofs.SameReply.{fits_again}
use Rattle.nor_buses.proofs.same_chip.SameChip.carry.Goals as goal
use Rattle.nor_buses.proofs.same_chip.SameChip.carry.Goals.{then-is_changing+in_ok-check, else-is_changing}

passes_after : (out : List ℕ) {old mid new : Sent} → mid ≡ old → Passes out mid new → Passes out old new
passes_after out {old} {mid} {new} same passes = subst (λ (passed : Sent). Passes out passed new) same passes

pub returns-in_err-check-clause-stops : goal.returns-in_err-check-clause-stops
returns-in_err-check-clause-stops g c honest =
    on_err c.from_residual.result (stops_at (c.in_err-check.ensures.stops honest.honest))

pub returns-in_err-transfer-clause-stops : goal.returns-in_err-transfer-clause-stops
returns-in_err-transfer-clause-stops g c honest =
    let stopped : (start : BusState) → g.B.Bus.state c.if-is_changing.self.bus ≡ start
    → IsHonestFor c.args.out.now (length c.args.reply.now) start
    → AtStop c.args.out.now start (g.B.Bus.state c.transfer.new.self) = λ start same fits.
    subst (λ (s : BusState). AtStop c.args.out.now s (g.B.Bus.state c.transfer.new.self)) same
    (c.in_err-transfer.ensures.stops
    (subst (λ (s : BusState). IsHonestFor c.args.out.now (length c.args.reply.now) s) (sym same) fits)).at_stop
    in
    on_err c.from_residual-in_err-transfer.result (elim c.if-is_changing.branch [
      | then-is_changing+in_ok-check w ↦
          stopped_after w.check.ensures.nature.steady (w.in_ok-check.ensures.keeps honest.honest)
          (stopped (g.B.Bus.state (checked_by w.check.new.self)) (rw w.self-is refl)
          (fits_again c.args.out.now _ _ _ _ w.check.ensures.nature refl honest))
      | else-is_changing w ↦ stopped (g.B.Bus.state (checked_by c.args.self.now)) (rw w.self-is refl) honest
    ])

pub returns-in_err-transfer-clause-passed : goal.returns-in_err-transfer-clause-passed
returns-in_err-transfer-clause-passed g c =
    let unchanged : (g.B.Bus.state c.if-is_changing.self.bus).passed
    ≡ (g.B.Bus.state (checked_by c.args.self.now)).passed = elim c.if-is_changing.branch [
      | then-is_changing+in_ok-check w ↦ rw w.self-is w.check.ensures.passed
      | else-is_changing w ↦ rw w.self-is refl
    ] in
    passes_after c.args.out.now unchanged c.transfer.ensures.records.passed

pub returns-clause-passed : goal.returns-clause-passed
returns-clause-passed g c =
    let unchanged : (g.B.Bus.state c.if-is_changing.self.bus).passed
    ≡ (g.B.Bus.state (checked_by c.args.self.now)).passed = elim c.if-is_changing.branch [
      | then-is_changing+in_ok-check w ↦ rw w.self-is w.check.ensures.passed
      | else-is_changing w ↦ rw w.self-is refl
    ] in
    passes_after c.args.out.now unchanged c.transfer.ensures.records.passed
