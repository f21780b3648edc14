use Rattle.std.proofs.Common.{arith, rules, length, ap}
use Rattle.nor_journal.specs.Text.{Content}
use Rattle.nor_journal.proofs.Saved.{sector_saved}
use Rattle.nor_journal.proofs.SectorRecords.{length-sectors_in}
use Rattle.nor_journal.proofs.journal.Journal.sector.Goals as goal

pub record_at-requires : goal.record_at-requires
record_at-requires c =
    let count = length-sectors_in c.self.inside.count c.self.inside.records.now in
    omega (arith, ap (λ (j : Content). length j.saved) c.self.view_is, c.self.invariant.1.within)

pub returns : goal.returns
returns c =
    let it = sector_saved c.self.inside.head c.self.inside.records.now c.self.inside.count c.args.i _ _ c.self.view_is
    c.self.invariant.1 c.requires c.record_at.ensures in
    record { value = it.0; saved = it.1; place = it.2.place; whole = it.2.whole; sound = search rules }
