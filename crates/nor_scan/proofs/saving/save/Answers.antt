use Rattle.std.proofs.Common.{◌≡◌, Some, refl, sym, rules, arith}
use Rattle.std.proofs.lemmas.Grind.{common_steps}
use Rattle.nor_driver.proofs.Passed.{is_err}
use Rattle.nor_journal.specs.Writer.{vault_seen}
use Rattle.nor_journal.proofs.Saves.{HasKept-none, Saves-set}
use Rattle.nor_plan.specs.SectorSet.{none}
use Rattle.nor_driver.specs.ReadBack.{bytes_read}
use Rattle.nor_scan.specs.Saving.{header_found, header_of, kept_read}
use Rattle.nor_scan.proofs.Cuts.{same_bytes, is_open, touched_right, raised_right, head_put, judged_errors}
use Rattle.nor_scan.proofs.Cuts.{cut_in_head, cut_in_scan, begins_scan, all_put, cut_at_end, begins_all}
use Rattle.nor_scan.proofs.saving.save.Goals as goal

pub returns-in_err-unlock-clause-errors : goal.returns-in_err-unlock-clause-errors
returns-in_err-unlock-clause-errors g c =
    rw (is_err _ _ c.from_residual-in_err-unlock.ensures.1)
    (judged_errors c.args.code _ c.in_ok-scanned.ensures.scans c.in_err-unlock.ensures.faults
    c.in_err-unlock.ensures.errors)

pub returns-clause-keeps : goal.returns-clause-keeps
returns-clause-keeps g c =
    let scans = c.in_ok-scanned.ensures.scans in
    record {
      lifts = search rules;
      scans = scans;
      chip = λ further chip is shows. record {
        touched = touched_right is shows scans;
        raised = raised_right is shows scans;
        accepts = λ accepted. c.in_ok-unlock.ensures.accepts further chip _ is accepted (touched_right is shows scans);
        merged = λ a marked. rw (same_bytes is shows, is.config.size) at (scans.merged (is_open is shows) a marked);
        journal = λ telling.
            let head = head_put c.args.identity.now (g.B.Bus.state c.args.bus.now) (g.met.B.Bus.reaches c.args.bus.now)
            (grind (arith, common_steps)) (c.in_ok-header.ensures.written c.on-writer.ensures.nothing) in
            let all = all_put head scans c.in_ok-scanned.ensures.keeps further chip is shows in
            let done = c.in_ok-end.ensures.kept (header_of chip) chip.bytes _ _ all in
            search rules;
      };
    }

pub returns-clause-replied : goal.returns-clause-replied
returns-clause-replied g c = λ telling.
    let read : c.bytes.result ≡ kept_read c.args.identity.now = grind (arith, common_steps) in
    let identity = c.args.identity.now in
    let reads = bytes_read (g.B.Bus.state c.scan_all.new.bus).history in
    let head = HasKept-none g.V.Vault.state _ identity.found.id (Some identity.unique) (kept_read identity)
    identity.found.size reads none 0 (rw read at (c.in_ok-header.ensures.written c.on-writer.ensures.nothing)) (λ s. refl) in
    let put = c.in_ok-scanned.ensures.replied (header_found identity) refl head in
    let done = c.in_ok-end.ensures.kept (header_found identity) reads _ _ put in
    search rules

pub returns-clause-saves : goal.returns-clause-saves
returns-clause-saves g c = λ telling.
    let journal = returns-clause-replied g c telling in
    record {
      content = journal.content;
      is = journal.saves.is;
      same = journal.is;
      head_same = journal.same;
      saved = λ s. sym (Saves-set _ _ journal.content s journal.saves);
    }

pub returns-clause-holds : goal.returns-clause-holds
returns-clause-holds g c = λ sealed telling.
    let journal = returns-clause-replied g c telling in
    record { content = journal.content; is = journal.saves.is; same = journal.is }

pub returns-in_err-scanned-clause-begins : goal.returns-in_err-scanned-clause-begins
returns-in_err-scanned-clause-begins g c =
    let head = head_put c.args.identity.now (g.B.Bus.state c.args.bus.now) (g.met.B.Bus.reaches c.args.bus.now)
    (grind (arith, common_steps)) (c.in_ok-header.ensures.written c.on-writer.ensures.nothing) in
    rw (is_err _ _ c.from_residual-in_err-scanned.ensures.1)
    (begins_scan c.args.request.now c.args.image.now
    (g.V.Vault.state c.in_err-scanned.vault-in-Break-branch-2-1-own.given.0) head c.in_err-scanned.ensures.begins
    (search rules))

pub returns-in_err-unlock-clause-begins : goal.returns-in_err-unlock-clause-begins
returns-in_err-unlock-clause-begins g c =
    let head = head_put c.args.identity.now (g.B.Bus.state c.args.bus.now) (g.met.B.Bus.reaches c.args.bus.now)
    (grind (arith, common_steps)) (c.in_ok-header.ensures.written c.on-writer.ensures.nothing) in
    rw (is_err _ _ c.from_residual-in_err-unlock.ensures.1)
    (begins_all head c.in_ok-scanned.ensures.scans c.in_ok-scanned.ensures.keeps
    (g.V.Vault.state c.in_err-unlock.vault-in-Break-branch-3-1-own.given.0) (search rules))

pub returns-in_err-end-clause-begins : goal.returns-in_err-end-clause-begins
returns-in_err-end-clause-begins g c =
    rw (is_err _ _ c.from_residual-in_err-end.ensures.1) (λ other. absurd (other refl))

pub returns-in_err-header-clause-cut : goal.returns-in_err-header-clause-cut
returns-in_err-header-clause-cut g c =
    let read : c.bytes.result ≡ kept_read c.args.identity.now = grind (arith, common_steps) in
    rw (is_err _ _ c.from_residual.ensures.1)
    (cut_in_head c.args.request.now c.args.image.now (vault_seen g.V.Vault.state c.header.new.self)
    (g.V.Vault.state c.in_err-header.vault-1-own.given.0) (g.met.B.Bus.reaches c.args.bus.now) read
    c.in_err-header.ensures.content (c.in_err-header.ensures.cut c.on-writer.ensures.nothing) (search rules))

pub returns-in_err-scanned-clause-cut : goal.returns-in_err-scanned-clause-cut
returns-in_err-scanned-clause-cut g c =
    let head = head_put c.args.identity.now (g.B.Bus.state c.args.bus.now) (g.met.B.Bus.reaches c.args.bus.now)
    (grind (arith, common_steps)) (c.in_ok-header.ensures.written c.on-writer.ensures.nothing) in
    rw (is_err _ _ c.from_residual-in_err-scanned.ensures.1)
    (cut_in_scan c.args.request.now c.args.image.now
    (g.V.Vault.state c.in_err-scanned.vault-in-Break-branch-2-1-own.given.0) head
    (vault_seen g.V.Vault.state c.scan_all.new.writer) c.in_err-scanned.ensures.cut (search rules))

pub returns-in_err-unlock-clause-cut : goal.returns-in_err-unlock-clause-cut
returns-in_err-unlock-clause-cut g c =
    let head = head_put c.args.identity.now (g.B.Bus.state c.args.bus.now) (g.met.B.Bus.reaches c.args.bus.now)
    (grind (arith, common_steps)) (c.in_ok-header.ensures.written c.on-writer.ensures.nothing) in
    rw (is_err _ _ c.from_residual-in_err-unlock.ensures.1)
    (cut_at_end head c.in_ok-scanned.ensures.scans c.in_ok-scanned.ensures.keeps
    (g.V.Vault.state c.in_err-unlock.vault-in-Break-branch-3-1-own.given.0) (search rules))

pub returns-in_err-end-clause-cut : goal.returns-in_err-end-clause-cut
returns-in_err-end-clause-cut g c =
    let head = head_put c.args.identity.now (g.B.Bus.state c.args.bus.now) (g.met.B.Bus.reaches c.args.bus.now)
    (grind (arith, common_steps)) (c.in_ok-header.ensures.written c.on-writer.ensures.nothing) in
    rw (is_err _ _ c.from_residual-in_err-end.ensures.1) (λ errors further chip is shows.
    let all = all_put head c.in_ok-scanned.ensures.scans c.in_ok-scanned.ensures.keeps further chip is shows in
    let holds = c.in_err-end.ensures.cut all.content all.written in
    record { content = all.content; same = all.same; saves = all.saves; begins = search rules })
