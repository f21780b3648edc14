use Rattle.std.proofs.Common.{refl, rules}
use Rattle.nor_buses.specs.Splitting.{sends_most, receives_most}
use Rattle.nor_buses.proofs.Around.{transfers_splits}
use Rattle.nor_buses.proofs.splitting.SplittingBusBus.transfer.Goals as goal

pub returns-in-Ok-clause-law : goal.returns-in-Ok-clause-law
returns-in-Ok-clause-law g c =
    transfers_splits _ _ _ _ _ _ _ _ _ (sends_most c.args.self.now) (receives_most c.args.self.now)
    (receives_most c.carry.new.self) refl (rw (c.carry.ensures.sends, c.carry.ensures.receives) refl)
    c.carry.ensures.receives _ c.carry.ensures.nature c.in-Ok.ensures.whole
    (search rules)

pub returns-in-Err-clause-law : goal.returns-in-Err-clause-law
returns-in-Err-clause-law g c =
    transfers_splits _ _ _ _ _ _ _ _ _ (sends_most c.args.self.now) (receives_most c.args.self.now)
    (receives_most c.carry.new.self) refl (rw (c.carry.ensures.sends, c.carry.ensures.receives) refl)
    c.carry.ensures.receives _ c.carry.ensures.nature c.in-Err.ensures.whole
    (search rules)
