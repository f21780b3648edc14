use Rattle.std.proofs.Common.{arith, rules, sym}
use Rattle.nor_files.proofs.Losses.{are_left}
use Rattle.nor_files.proofs.memory.Memory.lose.Goals as goal

pub returns : goal.returns
returns c =
    let lost = are_left c.args.self.files.items c.loop-stored.stored-items
    (search rules) c.args.self.files.ok.0
    (λ k d within. rw (sym c.deref_mut-stored-items.ensures.value) ((c.loop-stored.invariant k d).0
    (omega (arith, within, c.loop-stored-test.false, c.deref_mut-stored-items.ensures.len, c.args.self.files.ok.0)))) in
    record {
      left = search rules;
      at_rest = lost.at_rest;
      allowed = lost.allowed;
      durable = lost.durable;
    }
