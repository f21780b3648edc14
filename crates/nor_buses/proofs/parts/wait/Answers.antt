use Rattle.std.proofs.Common.{◌∙◌, [], refl, arith}
use Rattle.std.proofs.lemmas.Grind.{common_steps}
use Rattle.nor_buses.proofs.Polls.{nature_none}
use Rattle.nor_buses.proofs.ReadParts.{nature_then}
use Rattle.nor_buses.proofs.Splits.{one_more, waits_not, waits_ready}
use Rattle.nor_buses.proofs.parts.wait.Goals as goal

pub returns-in_err-poll-clause-waits : goal.returns-in_err-poll-clause-waits
returns-in_err-poll-clause-waits g c =
    waits_not _ _ _ (one_more _ _ _ c.loop.invariant.polls c.poll.ensures.polls) (grind (arith, common_steps))

pub returns-in_err-poll-clause-nature : goal.returns-in_err-poll-clause-nature
returns-in_err-poll-clause-nature g c = nature_then _ _ _ c.loop.invariant.nature c.poll.ensures.nature

pub returns-then-branch-clause-waits : goal.returns-then-branch-clause-waits
returns-then-branch-clause-waits g c =
    waits_ready _ _ _ _ c.loop.invariant.polls c.poll.ensures.polls (c.in_ok-poll.ensures.ready c.if-branch.true)

pub returns-then-branch-clause-nature : goal.returns-then-branch-clause-nature
returns-then-branch-clause-nature g c = nature_then _ _ _ c.loop.invariant.nature c.poll.ensures.nature

pub returns-clause-waits : goal.returns-clause-waits
returns-clause-waits g c = waits_not _ _ _ c.loop.invariant.polls (grind (arith, common_steps))

pub loop-init : goal.loop-init
loop-init g c = record {
  polls = record { later = []; is = refl; polls = tt };
  nature = nature_none;
  passed = refl;
}

pub loop-preserved : goal.loop-preserved
loop-preserved g c = record {
  polls = one_more _ _ _ c.loop.invariant.polls c.poll.ensures.polls;
  nature = nature_then _ _ _ c.loop.invariant.nature c.poll.ensures.nature;
  passed = c.poll.ensures.passed ∙ c.loop.invariant.passed;
}

pub returns-in_err-poll-clause-passed : goal.returns-in_err-poll-clause-passed
returns-in_err-poll-clause-passed g c = c.poll.ensures.passed ∙ c.loop.invariant.passed

pub returns-then-branch-clause-passed : goal.returns-then-branch-clause-passed
returns-then-branch-clause-passed g c = c.poll.ensures.passed ∙ c.loop.invariant.passed
