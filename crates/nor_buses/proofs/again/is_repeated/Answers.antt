use Rattle.std.proofs.Common.{ℕ, length, arith, sym, subst}
use Rattle.std.proofs.lemmas.Grind.{common_steps}
use Rattle.std.proofs.lemmas.List.{length-take-le}
use Rattle.nor_model.specs.Bus.{IsHonestFor}
use Rattle.nor_buses.proofs.PassedLater.{read_passes}
use Rattle.nor_buses.proofs.ReadsKeep.{read_keeps, read_stops, on_err}
use Rattle.nor_buses.proofs.again.is_repeated.Goals as goal

pub returns-clause-differs : goal.returns-clause-differs
returns-clause-differs g c honest other =
    let whole = length-take-le (length c.args.reply.now) c.args.again.now c.requires in
    let P : ℕ → Type 0 = λ n. IsHonestFor c.args.out.now n (g.B.Bus.state c.args.bus.now) in record {
      other = c.transfer.new.reply;
      carries = c.in_ok-transfer.ensures.carries (subst P (sym whole) honest);
      len = grind (arith, common_steps, c.transfer.auto.reply);
      differs = c.are_same.ensures.differ other;
    }

pub returns-clause-keeps : goal.returns-clause-keeps
returns-clause-keeps g c honest reads =
    let whole = length-take-le (length c.args.reply.now) c.args.again.now c.requires in
    let P : ℕ → Type 0 = λ n. IsHonestFor c.args.out.now n (g.B.Bus.state c.args.bus.now) in
    read_keeps reads (c.in_ok-transfer.ensures.carries (subst P (sym whole) honest))

pub returns-in_err-transfer-clause-stopped : goal.returns-in_err-transfer-clause-stopped
returns-in_err-transfer-clause-stopped g c honest reads =
    let whole = length-take-le (length c.args.reply.now) c.args.again.now c.requires in
    let P : ℕ → Type 0 = λ n. IsHonestFor c.args.out.now n (g.B.Bus.state c.args.bus.now) in
    on_err c.from_residual.result (read_stops reads (c.in_err-transfer.ensures.stops (subst P (sym whole) honest)))

pub returns-clause-passed : goal.returns-clause-passed
returns-clause-passed g c reads = read_passes c.args.out.now _ _ reads c.transfer.ensures.records.passed

pub returns-in_err-transfer-clause-passed : goal.returns-in_err-transfer-clause-passed
returns-in_err-transfer-clause-passed g c reads =
    read_passes c.args.out.now _ _ reads c.transfer.ensures.records.passed
