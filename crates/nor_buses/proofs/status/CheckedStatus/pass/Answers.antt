use Rattle.nor_buses.proofs.StatusRead.{still_read}
use Rattle.nor_buses.proofs.status.CheckedStatus.pass.Goals as goal

pub invariant_of-self : goal.invariant_of-self
invariant_of-self g c = record {
  one_read = still_read c.args.self.now.known.one 5 _ _ _ c.transfer.ensures.records.history c.args.self.now.one_read;
  two_read = still_read c.args.self.now.known.two 53 _ _ _ c.transfer.ensures.records.history c.args.self.now.two_read;
}
