use Rattle.std.proofs.Common.{inr}
use Rattle.nor_buses.proofs.ReadsKeep.{stops_at, keeps_none, keeps_stops}
use Rattle.nor_buses.proofs.StatusRead.{allowed_by}
use Rattle.nor_buses.proofs.status.CheckedStatus.write.Goals as goal

pub returns-in_default-clause-stops : goal.returns-in_default-clause-stops
returns-in_default-clause-stops g c honest = rw c.stop.ensures.inside (stops_at (keeps_stops keeps_none))

pub returns-clause-kept : goal.returns-clause-kept
returns-clause-kept g c =
    let keeps = c.in-Some.ensures in
    inr record {
      one = keeps.one;
      two = keeps.two;
      is = keeps.is;
      one_read = keeps.one_known;
      two_read = keeps.two_known;
      first = c.args.self.now.one_read keeps.one_known keeps.first;
      last = c.args.self.now.two_read keeps.two_known keeps.last;
      changes = allowed_by c.args.self.now.known.locks _ _ _ _ keeps.keeps;
      idle = keeps.idle;
      awake = keeps.awake;
    }
