use Rattle.nor_model.specs.History.{KeepsReplies, begins_with}
use Rattle.nor_driver.specs.ReadsInTurn.{HasOnlyRead}
use Rattle.nor_driver.specs.ReadBack.{bytes_read}
use Rattle.nor_scan.specs.Scanning.{sectors_below}
use Rattle.nor_scan.proofs.Begun.{HasJournalled}
use Rattle.nor_scan.proofs.whole.add_sectors.Given as goal

abbrev pub invariant-loop-sector : goal.invariant-loop-sector
invariant-loop-sector g l =
    let old = g.B.Bus.state l.fn.bus in
    record {
      reads : HasOnlyRead l.sector old (g.B.Bus.state l.bus);
      replies : KeepsReplies (begins_with 0x03) old.history (g.B.Bus.state l.bus).history;
      journal : HasJournalled g.V.Vault.state l.fn.writer l.writer l.size old
          (bytes_read (g.B.Bus.state l.bus).history) (sectors_below l.sector) l.sector;
    }
