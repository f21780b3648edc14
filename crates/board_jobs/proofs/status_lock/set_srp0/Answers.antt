use Rattle.std.proofs.Common.{◌∙◌, Some, None, refl, sym}
use Rattle.std.proofs.lemmas.Bool.{false≢true}
use Rattle.std.proofs.lemmas.Result.{err_from_is_err_and}
use Rattle.board_jobs.proofs.Locks.{equal_bits, lock_fails, lock_sends, lock_set, operation_fails, other_bits}
use Rattle.board_jobs.proofs.status_lock.set_srp0.Goals as goal

pub returns-in_err-before-clause-err : goal.returns-in_err-before-clause-err
returns-in_err-before-clause-err g c =
    let p = err_from_is_err_and c.from_residual-in_err-before.result c.from_residual-in_err-before.ensures.1 in
    rw (p.1, p.2) (lock_fails _ c.in_ok-found.found c.args.srp0 _ _ _ _ c.in_ok-found.ensures.ok
    c.in_err-before.ensures.err)

pub returns-then-shows_srp0-srp0-clause-ok : goal.returns-then-shows_srp0-srp0-clause-ok
returns-then-shows_srp0-srp0-clause-ok g c = lock_set c.args.named _ _ _ _ _ _ _ c.in_ok-found.ensures.ok
    c.in_ok-before.ensures.read c.in_ok-before.ensures.open None c.in_ok-before.ensures.known
    (sym c.shows_srp0.ensures ∙ equal_bits _ _ c.if-shows_srp0-srp0.true, refl)

pub returns-in_err-after-clause-sends : goal.returns-in_err-after-clause-sends
returns-in_err-after-clause-sends g c = lock_sends c.args.named _ _ _ _ _ _ _ c.in_ok-found.ensures.ok
    c.in_ok-before.ensures.read c.in_ok-before.ensures.open _ c.shows_srp0.ensures c.if-shows_srp0-srp0.false
    c.write_srp0.ensures.within

pub returns-in_err-after-clause-err : goal.returns-in_err-after-clause-err
returns-in_err-after-clause-err g c =
    let p = err_from_is_err_and c.from_residual-in_err-after.result c.from_residual-in_err-after.ensures.1 in
    rw (p.1, p.2) (lock_fails _ c.in_ok-found.found c.args.srp0 _ _ _ _ c.in_ok-found.ensures.ok
    (operation_fails c.in_ok-found.found _ _ _ c.in_err-after.ensures.err))

pub returns-then-not-has_only_srp0-clause-sends : goal.returns-then-not-has_only_srp0-clause-sends
returns-then-not-has_only_srp0-clause-sends g c = lock_sends c.args.named _ _ _ _ _ _ _ c.in_ok-found.ensures.ok
    c.in_ok-before.ensures.read c.in_ok-before.ensures.open _ c.shows_srp0.ensures c.if-shows_srp0-srp0.false
    c.write_srp0.ensures.within

pub returns-then-not-has_only_srp0-clause-err : goal.returns-then-not-has_only_srp0-clause-err
returns-then-not-has_only_srp0-clause-err g c = record {
  chip = c.in_ok-found.found;
  found = g.B.Bus.state c.identify_or_fault.new.bus;
  read = g.B.Bus.state c.read_open.new.bus;
  before = c.in_ok-before.before;
  identified = c.in_ok-found.ensures.ok;
  status = c.in_ok-before.ensures.read;
  writes = c.in_ok-after.ensures.ok;
  sends = c.bytes_with.ensures;
  differs = λ is. false≢true (sym c.if-not-has_only_srp0.true ∙ c.has_only_srp0.ensures.no is);
}

pub returns-clause-sends : goal.returns-clause-sends
returns-clause-sends g c = lock_sends c.args.named _ _ _ _ _ _ _ c.in_ok-found.ensures.ok
    c.in_ok-before.ensures.read c.in_ok-before.ensures.open _ c.shows_srp0.ensures c.if-shows_srp0-srp0.false
    c.write_srp0.ensures.within

pub returns-clause-ok : goal.returns-clause-ok
returns-clause-ok g c = lock_set c.args.named _ _ _ _ _ _ _ c.in_ok-found.ensures.ok c.in_ok-before.ensures.read
    c.in_ok-before.ensures.open (Some _) c.in_ok-before.ensures.known (
      λ same. other_bits _ _ c.if-shows_srp0-srp0.false (c.shows_srp0.ensures ∙ same),
      c.in_ok-after.ensures.ok,
      c.has_only_srp0.ensures.yes c.if-not-has_only_srp0.false,
    )
