use Rattle.std.proofs.Common.{◌≡◌, ◌<◌, ◌+◌, true}
use Rattle.nor_model.specs.History.{KeepsReplies, EndsBusy}
use Rattle.nor_model.specs.PolledReady.{is_poll}
use Rattle.nor_model.specs.Bus.{KeepsNature}
use Rattle.nor_driver.specs.OnlyReads.{Rested, Spent}
use Rattle.nor_driver.specs.Waits.{latch_when_idle}
use Rattle.nor_driver.proofs.Polled.{PollsBusy}
use Rattle.nor_driver.proofs.waits.wait.Given as goal

abbrev pub invariant-loop-polls : goal.invariant-loop-polls
invariant-loop-polls g l =
    let old = g.B.Bus.state l.fn.bus in let now = g.B.Bus.state l.bus in
    record {
      nature : KeepsNature old now;
      sent : now.sent ≡ old.sent;
      polled : PollsBusy old.history now.history l.polls;
      keeps_other_replies : KeepsReplies is_poll old.history now.history;
      shown_busy : 0 < l.polls → EndsBusy now.history;
      rested : old.honest ≡ true → Rested old now;
      busy : old.honest ≡ true → now.chip.busy + l.polls ≡ old.chip.busy;
      running : old.honest ≡ true → 0 < now.chip.busy → now.chip.latch ≡ old.chip.latch;
      ended : old.honest ≡ true → now.chip.busy ≡ 0 → now.chip.latch ≡ latch_when_idle old.chip;
      count : old.honest ≡ true → Spent l.polls old now;
    }
