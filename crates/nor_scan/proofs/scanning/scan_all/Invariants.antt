use Rattle.std.proofs.Common.{◌≡◌, ◌<◌, ◌≤◌, ◌/◌, true}
use Rattle.nor_model.specs.History.{KeepsReplies, begins_with}
use Rattle.nor_driver.specs.ReadBack.{bytes_read}
use Rattle.nor_plan.specs.SectorSet.{has}
use Rattle.nor_request.specs.Request.{is_data}
use Rattle.nor_scan.proofs.Scans.{HasScanned}
use Rattle.nor_scan.proofs.Begun.{HasJournalled}
use Rattle.nor_scan.proofs.scanning.scan_all.Given as goal

abbrev pub invariant-loop-sector : goal.invariant-loop-sector
invariant-loop-sector g l =
    let old = g.B.Bus.state l.fn.bus in
    record {
      targets : 0 < l.sectors → (is_data l.request.what ≡ true) × (l.sectors ≡ l.size / 4096);
      few : l.scanned.count ≤ l.scanned.reads;
      below : l.scanned.reads ≤ l.sector;
      scanned : HasScanned l.request l.size l.sector l.fn.image l.image old (g.B.Bus.state l.bus) l.scanned;
      replies : KeepsReplies (begins_with 0x03) old.history (g.B.Bus.state l.bus).history;
      journal : HasJournalled g.V.Vault.state l.fn.writer l.writer l.size old
          (bytes_read (g.B.Bus.state l.bus).history) (has l.scanned.touched) l.sector;
    }
