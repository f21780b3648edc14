use Rattle.std.proofs.Common.{◌≡◌, ◌+◌, ◌-◌, ◌*◌, ◌∙◌, ap, arith, length, sym}
use Rattle.std.proofs.lemmas.List.{length-replicate}
use Rattle.std.proofs.lemmas.Result.{err_from_is_err_and}
use Rattle.nor_plan.proofs.Parts.{part_long}
use Rattle.board_jobs.proofs.RestRead.{up_all, up_more, up_none, up_skip, up_stops}
use Rattle.board_jobs.proofs.unsaved_sectors.read_rest.Goals as goal
use Rattle.board_jobs.proofs.unsaved_sectors.read_rest.Goals.{else-not-saves, then-not-saves+in_ok-read_sector}

pub loop-sector-init : goal.loop-sector-init
loop-sector-init g c = up_none c.args.journal.now c.args.bytes.now (g.B.Bus.state c.args.bus.now) c.requires

pub loop-sector-preserved : goal.loop-sector-preserved
loop-sector-preserved g c =
    let n = c.loop-sector.sector in
    elim c.if-not-saves.branch [
      | then-not-saves+in_ok-read_sector w ↦
          let exact : 4096 * n + 4096 - 4096 * n ≡ 4096 = omega arith in
          let size = c.loop-sector.auto.bytes ∙ ap length c.requires ∙ length-replicate c.args.journal.now.size 255 in
          let long = w.read_sector.auto.bytes ∙ part_long c.loop-sector.bytes (4096 * n) _ exact
          (omega (arith, size, c.sectors_of-sector-end.ensures.value)) in
          rw (w.bytes-is, w.bus-is) (up_more exact (omega (arith, c.sectors_of-sector-end.ensures.value)) size long
          (sym c.saves.ensures ∙ w.if-not-saves.true) (rw w.end_blocks_at.ensures c.loop-sector.invariant)
          w.in_ok-read_sector.ensures.does w.read_sector.ensures.leaves
          (λ ready. w.read_sector.ensures.polled_ready ∙ ready))
      | else-not-saves w ↦
          rw (w.bytes-is, w.bus-is) (up_skip (sym c.saves.ensures ∙ w.if-not-saves.false) c.loop-sector.invariant)
    ]

pub returns-in_err-read_sector-clause-err : goal.returns-in_err-read_sector-clause-err
returns-in_err-read_sector-clause-err g c =
    let p = err_from_is_err_and c.from_residual.result c.from_residual.ensures.1 in
    rw p.1 (up_stops {n = c.loop-sector.sector} {bytes = c.loop-sector.bytes}
    (omega (arith, c.sectors_of-sector-end.ensures.value)) (rw c.end_blocks_at.ensures c.loop-sector.invariant)
    c.read_sector.ensures.leaves c.in_err-read_sector.ensures.fails)

pub returns-clause-ok : goal.returns-clause-ok
returns-clause-ok g c =
    let size = c.loop-sector.auto.bytes ∙ ap length c.requires ∙ length-replicate c.args.journal.now.size 255 in
    rw c.end_blocks_at-2.ensures (up_all
    (omega (arith, c.sectors_of-sector-end.ensures.value)) size c.loop-sector.invariant)
