use Rattle.std.proofs.Common.{◌≡◌, ◌<◌, ◌+◌, ◌*◌, ◌/◌, ◌∙◌, ℕ, true, refl, arith}
use Rattle.nor_driver.proofs.Passed.{is_err}
use Rattle.nor_driver.proofs.RestsInTurn.{has_only_read-none, has_only_read-one, has_only_read-then, only_reads_after, runs_out}
use Rattle.nor_driver.proofs.ReadsInTurn.{only_reads_none}
use Rattle.nor_journal.specs.Writer.{vault_seen}
use Rattle.nor_model.proofs.Histories.{keeps_replies_none, keeps_replies_then}
use Rattle.nor_request.specs.declared.refusal.Refusal.TheVariants.{Vault, Stopped}
use Rattle.nor_driver.specs.ReadBack.{bytes_read}
use Rattle.nor_scan.specs.Scanning.{sectors_below}
use Rattle.nor_scan.proofs.Begun.{journalled_none, journalled_later, journalled_more, kept_on, replied_on}
use Rattle.nor_scan.proofs.Cuts.{cut_between, cut_in_record}
use Rattle.nor_scan.proofs.Replied.{read_others, read_whole, read_keeps}
use Rattle.nor_scan.proofs.WholeChips.{one_below, read_first, put_below, kept_whole}
use Rattle.std.proofs.lemmas.Bool.{lt-ltb}
use Rattle.std.proofs.lemmas.Bool.Decides.{nat_tests}
use Rattle.nor_scan.proofs.whole.add_sectors.Goals as goal

pub loop-sector-init : goal.loop-sector-init
loop-sector-init g c = record {
  reads = has_only_read-none (g.B.Bus.state c.args.bus.now);
  replies = keeps_replies_none (g.B.Bus.state c.args.bus.now).history;
  journal = journalled_none (λ s. grind (arith, nat_tests));
}

pub loop-sector-preserved : goal.loop-sector-preserved
loop-sector-preserved g c =
    let here = c.loop-sector.invariant in let sector = c.loop-sector.sector in
    let does = c.in_ok-read_sector.ensures.does in
    let others : (s i : ℕ) → sectors_below sector s ≡ true → i < 4096
    → bytes_read (g.B.Bus.state c.read_sector.new.bus).history (4096 * s + i)
    ≡ bytes_read (g.B.Bus.state c.loop-sector.bus).history (4096 * s + i) = λ s i saved below.
    read_others sector does.answered s i (λ same. absurd (grind (arith, nat_tests))) below in
    record {
      reads = has_only_read-then here.reads
          (has_only_read-one c.read_sector.ensures.leaves does.read (λ ready. c.read_sector.ensures.polled_ready ∙ ready));
      replies = keeps_replies_then here.replies (read_keeps sector does.answered);
      journal = journalled_more (journalled_later here.journal (omega arith) (λ s. refl) others) (omega arith)
          c.add.ensures.same_vault c.in_ok-add.ensures.vault c.in_ok-add.ensures.kept (one_below sector)
          (read_first here.reads does.replied (omega arith) (omega arith))
          (read_whole sector does.answered (omega arith));
    }

pub returns-in_err-read_sector : goal.returns-in_err-read_sector
returns-in_err-read_sector g c =
    let here = c.loop-sector.invariant in
    rw (is_err c.from_residual.result Stopped c.from_residual.ensures.1) (record {
      leaves = only_reads_after _ 1 _ _ _ _ (omega arith) here.reads c.read_sector.ensures.leaves;
      reads = tt;
      same_vault = here.journal.same_vault;
      errors = (runs_out _ _ _ _ _ (omega arith) here.reads c.in_err-read_sector.ensures.fails, here.journal.accepted);
      accepts = tt;
      keeps = λ is_open head sized kept. tt;
      cut = λ is_open head sized kept. cut_between c.args.size sized
          (kept_whole (omega arith) (kept_on here.journal (omega arith) is_open sized kept));
      replies = tt;
      replied = λ head sized put. tt;
    })

pub returns-in_err-add : goal.returns-in_err-add
returns-in_err-add g c =
    let here = c.loop-sector.invariant in let sector = c.loop-sector.sector in
    let does = c.in_ok-read_sector.ensures.does in
    let refused = c.in_err-add.ensures.vault in let so_far = here.journal.accepted in
    rw (is_err c.from_residual-in_err-add.result Vault c.from_residual-in_err-add.ensures.1) (record {
      leaves = only_reads_after _ 1 _ _ _ _ (omega arith) here.reads c.read_sector.ensures.leaves;
      reads = tt;
      same_vault = c.add.ensures.same_vault ∙ here.journal.same_vault;
      errors = record { telling = cc; sealed = cc; failures = cc };
      accepts = tt;
      keeps = λ is_open head sized kept. tt;
      cut = λ is_open head sized kept.
          let held = put_below {total = c.args.size / 4096} (omega arith) (kept_on here.journal (omega arith) is_open sized kept) in
          cut_in_record (vault_seen g.V.Vault.state c.add.new.self) _ c.args.size held sized (omega arith)
          (lt-ltb sector (c.args.size / 4096) (omega arith))
          (read_first here.reads does.replied (omega arith) (omega arith) is_open)
          (c.in_err-add.ensures.cut held.content held.written);
      replies = tt;
      replied = λ head sized put. tt;
    })

pub returns-clause-reads : goal.returns-clause-reads
returns-clause-reads g c =
    let end : c.loop-sector.sector ≡ c.args.size / 4096 = omega arith in rw (← end) c.loop-sector.invariant.reads

pub returns-clause-leaves : goal.returns-clause-leaves
returns-clause-leaves g c =
    only_reads_after _ 0 _ _ _ _ (omega arith) c.loop-sector.invariant.reads (only_reads_none (g.B.Bus.state c.loop-sector.bus))

pub returns-clause-keeps : goal.returns-clause-keeps
returns-clause-keeps g c = λ is_open head sized kept.
    let end : c.loop-sector.sector ≡ c.args.size / 4096 = omega arith in
    rw (← end) (kept_on c.loop-sector.invariant.journal (omega arith) is_open sized kept)

pub returns-clause-replied : goal.returns-clause-replied
returns-clause-replied g c = λ head sized put.
    let end : c.loop-sector.sector ≡ c.args.size / 4096 = omega arith in
    rw (← end) (replied_on c.loop-sector.invariant.journal (omega arith) sized put)
