use Rattle.std.proofs.Common.{arith, length}
use Rattle.nor_buses.proofs.Held.{held_reply}
use Rattle.nor_buses.proofs.HeldData.{held_data}
use Rattle.nor_buses.proofs.ahead.ReadAhead.read.Goals as goal

pub returns-clause-read : goal.returns-clause-read
returns-clause-read g c some =
    held_reply c.args.address (length c.args.reply.now) _ c.hold.new.self.start c.hold.new.self.len
    c.hold.new.self.block _ _
    c.hold.new.self.holds c.in_ok-hold.ensures.begins c.in_ok-hold.ensures.ends some (omega arith)
    c.copy_from_slice.ensures.len c.copy_from_slice.ensures.after

pub returns-clause-same : goal.returns-clause-same
returns-clause-same g c takes =
    held_data c.args.address (length c.args.reply.now) _ c.hold.new.self.start c.hold.new.self.len
    c.hold.new.self.block _ _ (λ some. c.hold.new.self.same.same some takes) c.in_ok-hold.ensures.begins
    c.in_ok-hold.ensures.ends (omega arith) c.copy_from_slice.ensures.len c.copy_from_slice.ensures.after
