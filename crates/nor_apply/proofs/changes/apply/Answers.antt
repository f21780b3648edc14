use Rattle.std.proofs.Common.{◌+◌, ◌∙◌, sym, arith}
use Rattle.std.proofs.lemmas.Grind.{common_steps}
use Rattle.std.proofs.lemmas.Result.{err_from_is_err_and}
use Rattle.nor_driver.specs.StatusWrites.{EndsWithCode}
use Rattle.nor_apply.proofs.ApplyingSteps.{code_read, code_once}
use Rattle.nor_apply.proofs.ApplyingExits.{Lifted, Parts, Ended, lifted, not_lifted, code_lifted, code_not_lifted, erased, erases_failed, programs_failed, not_written, written, last_names, sector_names, last_failed, does_applied, few_sent}
use Rattle.nor_apply.proofs.changes.apply.Goals.{After-erase_all, In_ok-programmed, Joined-writes_code, then-changes+in_ok-status_transactions, else-changes, then-writes_code+in_ok-status_transactions-2, else-writes_code}
use Rattle.nor_apply.proofs.changes.apply.Goals as goal

lifted_here : (g : _) (c : After-erase_all g) → Lifted c.args.changes.now (g.S.Source.wanted c.args.source.now)
    (g.B.Bus.state c.args.bus.now) (g.B.Bus.state c.if-changes.bus) c.if-changes.status_transactions
lifted_here g c = elim c.if-changes.branch [
  | then-changes+in_ok-status_transactions w ↦
      rw (w.bus-is, w.status_transactions-is)
      (lifted c.args.changes.now _ _ w.if-changes.true w.write_status.ensures.leaves
      w.in_ok-status_transactions.ensures.does)
  | else-changes w ↦ rw (w.bus-is, w.status_transactions-is) (not_lifted c.args.changes.now _ _ w.if-changes.false)
]

coded_here : (g : _) (c : After-erase_all g) → EndsWithCode (code_read c.args.changes.now)
    (code_once c.args.changes.now) (g.B.Bus.state c.args.bus.now) (g.B.Bus.state c.if-changes.bus)
coded_here g c = elim c.if-changes.branch [
  | then-changes+in_ok-status_transactions w ↦
      rw w.bus-is (code_lifted c.args.changes.now (g.S.Source.wanted c.args.source.now) (g.B.Bus.state c.args.bus.now)
      w.if-changes.true w.in_ok-status_transactions.ensures.sends)
  | else-changes w ↦
      rw w.bus-is (code_not_lifted c.args.changes.now (g.S.Source.wanted c.args.source.now)
      (g.B.Bus.state c.args.bus.now) w.if-changes.false)
]

pub returns-in_err-erased : goal.returns-in_err-erased
returns-in_err-erased g c =
    let so = lifted_here g (goal.at.returns-in_err-erased g c).After-erase_all in
    let ends_in_error = erases_failed so c.requires.consistent.raised c.erase_all.ensures.leaves c.in_err-erased.ensures.fails in
    grind (arith, common_steps, ends_in_error)

pub returns-in_err-programmed : goal.returns-in_err-programmed
returns-in_err-programmed g c =
    let so = lifted_here g (goal.at.returns-in_err-programmed g c).After-erase_all in
    let then = erased so c.requires.consistent.raised c.erase_all.ensures.leaves c.in_ok-erased.ensures.does in
    let ends_in_error = programs_failed then c.program_all.ensures.leaves c.requires.consistent.raised
    c.in_ok-erased.ensures.does.fewer c.in_err-programmed.ensures.fails in
    let names = sector_names c.args.changes.now _ c.in_err-programmed.ensures.names in
    let p = err_from_is_err_and c.from_residual-in_err-programmed.result
    c.from_residual-in_err-programmed.ensures.1 in
    record {
      leaves = ends_in_error.0;
      does = rw p.1 tt;
      fails = rw (p.1, p.2) ends_in_error.1;
      names = rw (p.1, p.2) names;
    }

all_done : (g : _) (c : In_ok-programmed g) → Lifted c.args.changes.now (g.S.Source.wanted c.args.source.now)
    (g.B.Bus.state c.args.bus.now) (g.B.Bus.state c.if-changes.bus) c.if-changes.status_transactions
    → EndsWithCode (code_read c.args.changes.now) (code_once c.args.changes.now) (g.B.Bus.state c.args.bus.now)
    (g.B.Bus.state c.if-changes.bus)
    → Parts c.args.changes.now (g.S.Source.wanted c.args.source.now)
    (g.B.Bus.state c.args.bus.now) (g.B.Bus.state c.if-changes.bus) (g.B.Bus.state c.erase_all.new.bus)
    (g.B.Bus.state c.program_all.new.bus) c.if-changes.status_transactions c.in_ok-erased.erased c.in_ok-programmed.programmed
all_done g c lift coded = record {
  inside = c.requires.consistent.raised;
  six_bits = c.requires.consistent.six_bits;
  coded = coded;
  lift = lift;
  erases_leave = c.erase_all.ensures.leaves;
  erase = c.in_ok-erased.ensures.does;
  programs_leave = c.program_all.ensures.leaves;
  program = c.in_ok-programmed.ensures.does;
}

pub returns-in_err-status_transactions-2 : goal.returns-in_err-status_transactions-2
returns-in_err-status_transactions-2 g c =
    let at = goal.at.returns-in_err-status_transactions-2 g c in
    let parts = all_done g at.In_ok-programmed (lifted_here g at.After-erase_all) (coded_here g at.After-erase_all) in
    let ends_in_error = last_failed parts (sym c.writes_code.ensures ∙ c.if-writes_code.true)
    c.write_status-then-writes_code.ensures.leaves c.in_err-status_transactions-2.ensures.fails in
    let names = last_names c.args.changes.now (sym c.writes_code.ensures ∙ c.if-writes_code.true) _
    c.in_err-status_transactions-2.ensures.names in
    let p = err_from_is_err_and c.from_residual-in_err-status_transactions-2.result
    c.from_residual-in_err-status_transactions-2.ensures.1 in
    record {
      leaves = ends_in_error.0;
      does = rw p.1 tt;
      fails = rw (p.1, p.2) ends_in_error.1;
      names = rw (p.1, p.2) names;
    }

ended : (g : _) (c : Joined-writes_code g) (parts : Parts c.args.changes.now (g.S.Source.wanted c.args.source.now)
    (g.B.Bus.state c.args.bus.now) (g.B.Bus.state c.if-changes.bus) (g.B.Bus.state c.erase_all.new.bus)
    (g.B.Bus.state c.program_all.new.bus) c.if-changes.status_transactions c.in_ok-erased.erased c.in_ok-programmed.programmed)
    → Ended c.args.changes.now (g.S.Source.wanted c.args.source.now) c.in_ok-erased.erased.count
    c.in_ok-programmed.programmed.count (g.B.Bus.state c.args.bus.now) (g.B.Bus.state c.program_all.new.bus)
    (g.B.Bus.state c.if-writes_code.bus)
    (c.if-writes_code.status_transactions + c.in_ok-erased.erased.transactions + c.in_ok-programmed.programmed.transactions)
ended g c parts = elim c.if-writes_code.branch [
  | then-writes_code+in_ok-status_transactions-2 w ↦
      rw w.bus-is (written parts (sym c.writes_code.ensures ∙ w.if-writes_code.true)
      w.write_status-then-writes_code.ensures.leaves w.in_ok-status_transactions-2.ensures.does
      w.in_ok-status_transactions-2.ensures.sends (omega (arith, w.status_transactions-is)))
  | else-writes_code w ↦
      rw w.bus-is (not_written parts (sym c.writes_code.ensures ∙ w.if-writes_code.false) (omega (arith, w.status_transactions-is)))
]

pub overflow_add-result-2 : goal.overflow_add-result-2
overflow_add-result-2 g c =
    let at = goal.at.overflow_add-result-2 g c in
    let parts = all_done g at.In_ok-programmed (lifted_here g at.After-erase_all) (coded_here g at.After-erase_all) in
    omega (arith, few_sent parts (ended g at.Joined-writes_code parts))

pub returns : goal.returns
returns g c =
    let at = goal.at.returns g c in
    let parts = all_done g at.In_ok-programmed (lifted_here g at.After-erase_all) (coded_here g at.After-erase_all) in
    let all = does_applied parts (ended g at.Joined-writes_code parts) in
    record { leaves = all.0; does = rw c.from.ensures all.1; fails = tt; names = tt }
