use Rattle.std.proofs.Common.{◌∙◌, ℕ, ap}
use Rattle.std.proofs.lemmas.Result.{on_err_weaker}
use Rattle.nor_buses.specs.Ahead.{inside_of, longest_of}
use Rattle.nor_buses.specs.Blocks.{takes_blocks}
use Rattle.nor_buses.proofs.Held.{passed}
use Rattle.nor_buses.proofs.HeldData.{made_on_ok, takes_same}
use Rattle.nor_buses.proofs.ReadsKeep.{stops_at}
use Rattle.nor_buses.proofs.ahead.ReadAhead.carry.Goals as goal

pub returns-in-Some-clause-stops : goal.returns-in-Some-clause-stops
returns-in-Some-clause-stops g c fits =
    on_err_weaker c.read.result (λ stops. stops_at stops) (c.read.ensures.stops fits.honest)

pub returns-in-Some-clause-steps : goal.returns-in-Some-clause-steps
returns-in-Some-clause-steps g c fits =
    let takes = ap (λ (n : ℕ). takes_blocks n (inside_of c.read.new.self)) c.read.ensures.longest
    ∙ takes_same (longest_of c.args.self.now) (inside_of c.args.self.now) (inside_of c.read.new.self)
    c.read.ensures.nature ∙ fits.honest in
    made_on_ok c.args.out.now c.read.new.reply c.in-Some.address c.read.result _ _ c.in-Some.ensures.reads
    c.in-Some.ensures.address (c.read.ensures.keeps fits.honest) (c.read.ensures.same takes)

pub returns-in_default-clause-read : goal.returns-in_default-clause-read
returns-in_default-clause-read g c reads some =
    passed c.args.out.now c.transfer.new.reply c.transfer.result (g.B.Bus.state c.args.self.now.bus)
    (g.B.Bus.state c.transfer.new.self) c.transfer.ensures.records reads
