use Rattle.std.proofs.Common.{arith, rules, [], Result, Ok, Err, OnOk}
use Rattle.std.proofs.lemmas.Grind.{common_steps}
use Rattle.nor_buses.proofs.ReadsKeep.{stops_at, on_err}
use Rattle.nor_buses.proofs.Polls.{made_as}
use Rattle.nor_buses.proofs.status.CheckedStatus.carry.Goals as goal

on_ok : {T E : Type 0} (r : Result T E) (P : Type 0) → P → OnOk r P
on_ok (Ok done) P holds = holds
on_ok (Err stop) P holds = tt

pub returns-in_default-clause-believes : goal.returns-in_default-clause-believes
returns-in_default-clause-believes g c = on_ok c.pass_on.result _ record {
  poll = λ is len ready. record {
    unchanged = λ before none. record { knows = grind (arith, common_steps); is = grind (arith, common_steps) };
    changing = λ before none. grind (arith, common_steps);
    stored = λ sent some. record {
      between = [];
      twice = record { knows = grind (arith, common_steps); is = grind (arith, common_steps) };
      stored = record {
        two = 0;
        twice = record { knows = grind (arith, common_steps); is = grind (arith, common_steps) };
        first = grind (arith, common_steps);
        last = grind (arith, common_steps);
      };
    };
  };
  twice = λ is len. record { knows = grind (arith, common_steps); is = grind (arith, common_steps) };
  written = λ begins. record { one = 0; two = 0; is = grind (arith, common_steps); written = grind (arith, common_steps) };
  begun = c.pass_on.ensures.begun;
}

pub returns-in_ok-reply-in-5-eq1-clause-steps : goal.returns-in_ok-reply-in-5-eq1-clause-steps
returns-in_ok-reply-in-5-eq1-clause-steps g c honest =
    made_as c.args.out.now c.args.reply.now (search rules) c.in-5-eq1.len_at_least c.in-5-eq1.len_below c.in-5-eq1.is-1
    (c.in_ok-reply-in-5-eq1.ensures.steps honest.honest)

pub returns-in_ok-reply-in-53-eq1-clause-steps : goal.returns-in_ok-reply-in-53-eq1-clause-steps
returns-in_ok-reply-in-53-eq1-clause-steps g c honest =
    made_as c.args.out.now c.args.reply.now (search rules) c.in-53-eq1.len_at_least c.in-53-eq1.len_below
    c.in-53-eq1.is-1 (c.in_ok-reply-in-53-eq1.ensures.steps honest.honest)

pub returns-in_err-reply-in-53-eq1-clause-stops : goal.returns-in_err-reply-in-53-eq1-clause-stops
returns-in_err-reply-in-53-eq1-clause-stops g c honest =
    on_err c.from_residual-in_err-reply-in-53-eq1.result
    (stops_at (c.in_err-reply-in-53-eq1.ensures.stops honest.honest))
