use Rattle.std.proofs.Common.{◌≡◌, ◌<◌, ◌∙◌, ℕ, List, slice_index, option_copied, refl, ap, sym, arith}
use Rattle.nor_request.specs.declared.request.What.{What}
use Rattle.nor_request.specs.Request.{target}
use Rattle.nor_driver.proofs.RestsInTurn.{has_only_read-one}
use Rattle.nor_scan.proofs.Planned.{scans_sector, target-write}
use Rattle.nor_scan.proofs.scanning.scan_sector.Goals as goal
use Rattle.nor_scan.proofs.scanning.scan_sector.Goals.{in-Erase, in_default}

pub returns-clause-scans : goal.returns-clause-scans
returns-clause-scans g c =
    let what = c.args.request.now.what in
    let targets : (image : List ℕ) (a i : ℕ) → i < 4096 → slice_index c.args.part.now i ≡ slice_index image a → slice_index c.match-request.part i ≡ target what image a =
    λ image a i below same. elim c.match-request.branch [
      | in-Erase w ↦
          ap (λ (p : List ℕ). slice_index p i) w.part-is ∙ w.fill.ensures.clones i 0 (omega arith) refl
          ∙ ap (λ (w : What). target w image a) (sym w.in-Erase.is)
      | in_default w ↦
          ap (λ (p : List ℕ). slice_index p i) w.part-is ∙ same ∙ target-write what image a c.requires.«data» w.in_default.not-Erase
    ] in
    scans_sector c.args.request.now c.args.size c.args.sector (option_copied c.as_ref.result) c.args.part.now c.match-request.part c.fill_excluded.new.bytes c.read_sector.new.bytes
    (g.B.Bus.state c.args.bus.now) (g.B.Bus.state c.read_sector.new.bus) c.of.result
    c.requires.«data» c.requires.inside c.as_ref.ensures.value (omega arith) (omega arith) targets c.fill_excluded.ensures.bytes c.in_ok-read_sector.ensures.does
    (has_only_read-one c.read_sector.ensures.leaves c.in_ok-read_sector.ensures.does.read (λ ready. c.read_sector.ensures.polled_ready ∙ ready)) c.of.ensures.needed c.of.ensures.anywhere
