use Rattle.std.proofs.Common.{refl, arith}
use Rattle.std.proofs.lemmas.Grind.{common_steps}
use Rattle.nor_model.proofs.Nature.{nature_then}
use Rattle.nor_model.proofs.Histories.{keeps_replies_then, answered_keeps, answered_last}
use Rattle.nor_driver.proofs.Polled.{polled_busy, polled_ready}
use Rattle.nor_driver.proofs.Waiting.{poll_answered, ends_busy, polled_leaves}
use Rattle.nor_driver.proofs.waits.wait.Goals as goal

pub returns-in_err-status1-clause-leaves : goal.returns-in_err-status1-clause-leaves
returns-in_err-status1-clause-leaves g c =
    let was = c.loop-polls.invariant in
    polled_leaves c.loop-polls.polls 65536 _ _ _ c.loop-polls-test.true was.nature was.sent was.rested was.count
    c.poll.ensures.leaves

pub returns-then-not-contains-clause-leaves : goal.returns-then-not-contains-clause-leaves
returns-then-not-contains-clause-leaves g c =
    let was = c.loop-polls.invariant in
    polled_leaves c.loop-polls.polls 65536 _ _ _ c.loop-polls-test.true was.nature was.sent was.rested was.count
    c.poll.ensures.leaves

pub returns-then-not-contains-clause-does : goal.returns-then-not-contains-clause-does
returns-then-not-contains-clause-does g c =
    let polled = poll_answered c.in_ok-status1.ensures.does in record {
      history = polled_ready c.loop-polls.invariant.polled c.in_ok-status1.ensures.does (grind (arith, common_steps)) refl refl;
      keeps_other_replies = keeps_replies_then c.loop-polls.invariant.keeps_other_replies (answered_keeps polled);
      status = answered_last polled;
      some = grind (arith, common_steps);
      few = grind (arith, common_steps);
      clear = grind (arith, common_steps);
      polled_ready = grind (arith, common_steps);
      done = grind (arith, common_steps);
    }

pub loop-polls-preserved : goal.loop-polls-preserved
loop-polls-preserved g c =
    let was = c.loop-polls.invariant in
    let polled = poll_answered c.in_ok-status1.ensures.does in record {
      nature = nature_then _ _ _ c.poll.ensures.leaves.nature was.nature;
      sent = grind (arith, common_steps);
      polled = polled_busy was.polled c.in_ok-status1.ensures.does (grind (arith, common_steps)) refl;
      keeps_other_replies = keeps_replies_then was.keeps_other_replies (answered_keeps polled);
      shown_busy = λ some. ends_busy c.in_ok-status1.ensures.does (grind (arith, common_steps));
      rested = grind (arith, common_steps);
      busy = grind (arith, common_steps);
      running = grind (arith, common_steps);
      ended = grind (arith, common_steps);
      count = grind (arith, common_steps);
    }
