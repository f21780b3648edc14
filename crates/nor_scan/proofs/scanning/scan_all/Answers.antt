use Rattle.std.proofs.Common.{◌≡◌, ◌<◌, ◌+◌, ◌-◌, ◌*◌, ◌∙◌, ℕ, true, length, refl, sym, arith, rules}
use Rattle.nor_driver.proofs.Passed.{is_err}
use Rattle.nor_plan.specs.SectorSet.{has}
use Rattle.nor_driver.specs.ReadBack.{bytes_read}
use Rattle.nor_journal.specs.Writer.{vault_seen}
use Rattle.nor_geometry.proofs.Counting.{at_most_one}
use Rattle.nor_driver.proofs.RestsInTurn.{only_reads_after, runs_out}
use Rattle.nor_plan.proofs.Parts.{part_long}
use Rattle.nor_request.specs.declared.refusal.Refusal.TheVariants.{Vault, Stopped}
use Rattle.nor_scan.proofs.Scans.{is_at, nothing_scanned, skipped, scanned_more, planned_before, read_before, room}
use Rattle.nor_scan.proofs.Scans.{marked_more, marked_none, all_scanned, none_to_scan}
use Rattle.nor_scan.proofs.Begun.{journalled_none, journalled_later, journalled_more, kept_on, replied_on}
use Rattle.nor_scan.proofs.Replied.{read_others, read_whole, read_keeps}
use Rattle.nor_model.proofs.Histories.{keeps_replies_none, keeps_replies_then}
use Rattle.nor_scan.proofs.Cuts.{kept_touched, kept_below, cut_between, cut_in_record}
use Rattle.nor_scan.proofs.scanning.scan_all.Goals as goal
use Rattle.nor_scan.proofs.scanning.scan_all.Goals.{then-is_data, else-is_data, then-includes_in_sector+in_ok-plan}
use Rattle.nor_scan.proofs.scanning.scan_all.Goals.{then-plan+in_ok-add, else-plan, else-includes_in_sector}

pub loop-sector-init : goal.loop-sector-init
loop-sector-init g c = record {
  targets = λ some. elim c.if-is_data.branch [
    | then-is_data w ↦ (sym c.is_data.ensures ∙ w.if-is_data.true, w.sectors-is)
    | else-is_data w ↦ absurd (omega arith)
  ];
  few = omega arith;
  below = omega arith;
  scanned = nothing_scanned c.args.request.now c.args.size c.args.image.now (g.B.Bus.state c.args.bus.now)
      c.none-scanned.result c.none-scanned.ensures;
  replies = keeps_replies_none (g.B.Bus.state c.args.bus.now).history;
  journal = journalled_none c.none-scanned.ensures.touched;
}

pub loop-sector-preserved : goal.loop-sector-preserved
loop-sector-preserved g c =
    let here = c.loop-sector.invariant in let sector = c.loop-sector.sector in
    let targets = here.targets (omega arith) in
    elim c.if-includes_in_sector.branch [
      | then-includes_in_sector+in_ok-plan w ↦
          let plan = w.in_ok-plan.plan in
          let at = is_at c.requires.sized here.targets (omega arith) c.as_ref.ensures.value
          c.includes_in_sector.ensures.test w.if-includes_in_sector.true in
          let image : length c.loop-sector.image ≡ c.args.size =
          c.loop-sector.auto.image ∙ c.requires.whole targets.0 in
          let width : 4096 * sector + 4096 - 4096 * sector ≡ 4096 = omega arith in
          let answered = w.in_ok-plan.ensures.scans.answered in
          let others : (s i : ℕ) → has c.loop-sector.scanned.touched s ≡ true → i < 4096
          → bytes_read (g.B.Bus.state w.scan_sector.new.bus).history (4096 * s + i)
          ≡ bytes_read (g.B.Bus.state c.loop-sector.bus).history (4096 * s + i) = λ s i saved below.
          read_others sector answered s i (λ same. absurd (omega (arith, same, here.scanned.marks.below s saved))) below in
          let part = w.scan_sector.auto.part ∙ part_long c.loop-sector.image (4096 * sector) _ width (omega arith) in
          record {
            targets = here.targets;
            few = rw w.scanned-is
                (omega (arith, at_most_one plan.touched, w.mark.ensures.count, w.mark.ensures.reads, here.few));
            below = rw w.scanned-is (omega (arith, w.mark.ensures.reads, here.below));
            scanned = rw (w.image-is, w.bus-is, w.scanned-is)
                (scanned_more here.scanned at w.in_ok-plan.ensures.scans width w.mark.ensures part (omega arith) image);
            replies = rw w.bus-is (keeps_replies_then here.replies (read_keeps sector answered));
            journal = rw (w.writer-is, w.scanned-is, w.bus-is) (elim w.if-plan.branch [
              | then-plan+in_ok-add v ↦ rw v.writer-is
                  (journalled_more (journalled_later here.journal (omega arith) (λ s. refl) others) at.below
                  v.add.ensures.same_vault v.in_ok-add.ensures.vault v.in_ok-add.ensures.kept
                  (marked_more sector plan c.loop-sector.scanned w.mark.new.self v.if-plan.true w.mark.ensures)
                  (read_before here.scanned at w.in_ok-plan.ensures.scans width (omega arith))
                  (read_whole sector answered (omega arith)))
              | else-plan v ↦ rw v.writer-is
                  (journalled_later here.journal (omega arith)
                  (marked_none sector plan c.loop-sector.scanned w.mark.new.self v.if-plan.false w.mark.ensures) others)
            ]);
          }
      | else-includes_in_sector w ↦
          let none = rw (c.as_ref.ensures.value, w.if-includes_in_sector.false) at c.includes_in_sector.ensures.cases in
          let at = is_at c.requires.sized here.targets (omega arith) c.as_ref.ensures.value
          c.includes_in_sector.ensures.test w.if-includes_in_sector.false in
          record {
            targets = here.targets;
            few = rw w.scanned-is here.few;
            below = rw w.scanned-is (omega (arith, here.below));
            scanned = rw (w.image-is, w.bus-is, w.scanned-is) (skipped here.scanned at none);
            replies = rw w.bus-is here.replies;
            journal = rw (w.writer-is, w.scanned-is, w.bus-is) (journalled_later here.journal (omega arith) (λ s. refl) (λ s i saved below. refl));
          }
    ]

pub returns-in_err-plan : goal.returns-in_err-plan
returns-in_err-plan g c =
    let here = c.loop-sector.invariant in
    let at = is_at c.requires.sized here.targets (omega arith) c.as_ref.ensures.value c.includes_in_sector.ensures.test
    c.if-includes_in_sector.true in
    let more = room here.scanned at in
    rw (is_err c.from_residual.result Stopped c.from_residual.ensures.1) (record {
      leaves = only_reads_after _ 1 _ _ _ _ (omega arith) here.scanned.honest_reads c.scan_sector.ensures.leaves;
      scans = tt;
      same_vault = here.journal.same_vault;
      puts = here.journal.accepted;
      errors = runs_out _ _ _ _ _ more here.scanned.honest_reads c.in_err-plan.ensures.stops;
      keeps = λ is_open head sized kept. tt;
      begins = λ is_open head sized kept other.
          kept_below (here.scanned.right is_open) (kept_on here.journal (omega arith) is_open sized kept) (omega arith);
      cut = λ is_open head sized kept. cut_between c.args.size sized
          (kept_below (here.scanned.right is_open) (kept_on here.journal (omega arith) is_open sized kept) (omega arith));
      writes = λ head bytes sized put other. (_, _, replied_on here.journal (omega arith) sized put);
      replies = tt;
      replied = λ head sized put. tt;
    })

pub returns-in_err-add : goal.returns-in_err-add
returns-in_err-add g c =
    let here = c.loop-sector.invariant in
    let at = is_at c.requires.sized here.targets (omega arith) c.as_ref.ensures.value c.includes_in_sector.ensures.test
    c.if-includes_in_sector.true in
    let more = room here.scanned at in
    let scans = c.in_ok-plan.ensures.scans in
    let refused = c.in_err-add.ensures.vault in let so_far = here.journal.accepted in
    rw (is_err c.from_residual-in_err-add.result Vault c.from_residual-in_err-add.ensures.1) (record {
      leaves = only_reads_after _ 1 _ _ _ _ (omega arith) here.scanned.honest_reads c.scan_sector.ensures.leaves;
      scans = tt;
      same_vault = c.add.ensures.same_vault ∙ here.journal.same_vault;
      puts = search rules;
      errors = tt;
      keeps = λ is_open head sized kept. tt;
      begins = λ is_open head sized kept other. absurd (other refl);
      cut = λ is_open head sized kept.
          let held = kept_touched (here.scanned.right is_open) (kept_on here.journal (omega arith) is_open sized kept) in
          cut_in_record (vault_seen g.V.Vault.state c.add.new.self) _ c.args.size held sized at.below
          (sym (planned_before here.scanned at scans (omega arith) is_open).0 ∙ c.if-plan.true)
          (read_before here.scanned at scans (omega arith) (omega arith) is_open)
          (c.in_err-add.ensures.cut held.content held.written);
      writes = λ head bytes sized put other. absurd (other refl);
      replies = tt;
      replied = λ head sized put. tt;
    })

pub returns-clause-scans : goal.returns-clause-scans
returns-clause-scans g c =
    let here = c.loop-sector.invariant in
    elim c.if-is_data.branch [
      | then-is_data w ↦ all_scanned here.scanned (sym c.is_data.ensures ∙ w.if-is_data.true) (omega arith) here.few
      | else-is_data w ↦ none_to_scan here.scanned (sym c.is_data.ensures ∙ w.if-is_data.false) (omega arith) here.few
    ]

pub returns-clause-keeps : goal.returns-clause-keeps
returns-clause-keeps g c = λ is_open head sized kept.
    let here = c.loop-sector.invariant in kept_on here.journal (grind (arith, here.targets)) is_open sized kept

pub returns-clause-replies : goal.returns-clause-replies
returns-clause-replies g c = c.loop-sector.invariant.replies

pub returns-clause-replied : goal.returns-clause-replied
returns-clause-replied g c = λ head sized put.
    let here = c.loop-sector.invariant in replied_on here.journal (grind (arith, here.targets)) sized put
