use Rattle.std.proofs.Common.{◌≡◌, ◌+◌, ◌∙◌, length, arith, sym}
use Rattle.std.proofs.lemmas.Bool.{false≢true}
use Rattle.std.proofs.lemmas.Result.{err_from_is_err_and}
use Rattle.nor_serprog.proofs.Exchanges.{uses_then}
use Rattle.nor_serprog.proofs.Skipped.{skips_err, received_more, all_received, ends_if_all, skipped}
use Rattle.nor_serprog.proofs.skipping.skip_past.Goals as goal

pub returns-in_err-byte-clause-skips : goal.returns-in_err-byte-clause-skips
returns-in_err-byte-clause-skips g c p =
    let e = err_from_is_err_and c.from_residual.result c.from_residual.ensures.1 in
    let s = c.loop-received.invariant.skips p in
    rw (e.1, e.2)
    (skips_err c.args.wanted.now c.loop-received.last c.loop-received.received _ (g.P.Port.state c.args.port.now)
    (g.P.Port.state c.loop-received.port) (g.P.Port.state c.receive_one.new.port) s.0 s.1
    (c.in_err-byte.ensures.silent s.1.honest) c.in_err-byte.ensures.cause)

pub returns-then-ends_with-clause-skips : goal.returns-then-ends_with-clause-skips
returns-then-ends_with-clause-skips g c p =
    let s = c.loop-received.invariant.skips p in
    let r = received_more c.args.wanted.now c.loop-received.last c.shift_in.new.last c.loop-received.received _
    (g.P.Port.state c.args.port.now) (g.P.Port.state c.loop-received.port) (g.P.Port.state c.receive_one.new.port) s.0 s.1
    (c.in_ok-byte.ensures.received s.1.honest) c.receive_one.ensures.nature c.shift_in.ensures in
    let all = all_received c.args.wanted.now c.shift_in.new.last _ _ _ _ p (omega (arith, s.0)) r c.ends_with.ensures.value
    c.if-ends_with.true in
    record {
      done = skipped c.args.wanted.now c.shift_in.new.last _ _ _ r all;
      few_left = tt;
      power = tt;
    }

pub loop-received-preserved : goal.loop-received-preserved
loop-received-preserved g c = record {
  uses = uses_then c.loop-received.invariant.uses c.receive_one.ensures.nature c.receive_one.ensures.fewer
      c.receive_one.ensures.unasked;
  skips = λ p.
      let s = c.loop-received.invariant.skips p in
      let r = received_more c.args.wanted.now c.loop-received.last c.shift_in.new.last c.loop-received.received _
      (g.P.Port.state c.args.port.now) (g.P.Port.state c.loop-received.port) (g.P.Port.state c.receive_one.new.port) s.0 s.1
      (c.in_ok-byte.ensures.received s.1.honest) c.receive_one.ensures.nature c.shift_in.ensures in
      let more : c.loop-received.received + 1 ≡ length c.args.wanted.now → ⊥ =
      λ all. false≢true (sym c.if-ends_with.false
      ∙ ends_if_all c.args.wanted.now c.shift_in.new.last _ _ _ _ p r all c.ends_with.ensures.value) in
      (omega (arith, s.0, more), r);
}
