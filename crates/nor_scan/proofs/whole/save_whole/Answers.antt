use Rattle.std.proofs.Common.{◌≡◌, Some, refl, rules, arith}
use Rattle.std.proofs.lemmas.Grind.{common_steps}
use Rattle.nor_driver.proofs.Passed.{is_err}
use Rattle.nor_journal.specs.Writer.{vault_seen}
use Rattle.nor_journal.proofs.Saves.{HasKept-none}
use Rattle.nor_plan.specs.SectorSet.{none}
use Rattle.nor_driver.specs.ReadBack.{bytes_read}
use Rattle.nor_scan.specs.Saving.{header_found, header_of, kept_read}
use Rattle.nor_scan.proofs.Cuts.{head_put}
use Rattle.nor_scan.proofs.WholeChips.{whole_in_head, whole_in_sectors, all_sectors}
use Rattle.nor_scan.proofs.whole.save_whole.Goals as goal

pub returns-clause-replied : goal.returns-clause-replied
returns-clause-replied g c = λ telling.
    let read : c.bytes.result ≡ kept_read c.args.identity.now = grind (arith, common_steps) in
    let identity = c.args.identity.now in
    let reads = bytes_read (g.B.Bus.state c.add_sectors.new.bus).history in
    let head = HasKept-none g.V.Vault.state _ identity.found.id (Some identity.unique) (kept_read identity)
    identity.found.size reads none 0 (rw read at (c.in_ok-header.ensures.written c.on-writer.ensures.nothing)) (λ s. refl) in
    let put = c.in_ok-add_sectors.ensures.replied (header_found identity) refl head in
    let done = c.in_ok-end.ensures.kept (header_found identity) reads _ _ put in
    search rules

pub returns-clause-saves : goal.returns-clause-saves
returns-clause-saves g c = λ telling further chip is shows.
    let head = head_put c.args.identity.now (g.B.Bus.state c.args.bus.now) (g.met.B.Bus.reaches c.args.bus.now)
    (grind (arith, common_steps)) (c.in_ok-header.ensures.written c.on-writer.ensures.nothing) in
    let all = all_sectors head c.in_ok-add_sectors.ensures.keeps further chip is shows in
    let done = c.in_ok-end.ensures.kept (header_of chip) chip.bytes _ _ all in
    search rules

pub returns-in_err-header-clause-cut : goal.returns-in_err-header-clause-cut
returns-in_err-header-clause-cut g c =
    let read : c.bytes.result ≡ kept_read c.args.identity.now = grind (arith, common_steps) in
    rw (is_err _ _ c.from_residual.ensures.1)
    (whole_in_head (vault_seen g.V.Vault.state c.header.new.self)
    (g.V.Vault.state c.in_err-header.vault-1-own.given.0) (g.met.B.Bus.reaches c.args.bus.now) read
    c.in_err-header.ensures.content (c.in_err-header.ensures.cut c.on-writer.ensures.nothing) (search rules))

pub returns-in_err-add_sectors-clause-cut : goal.returns-in_err-add_sectors-clause-cut
returns-in_err-add_sectors-clause-cut g c =
    let head = head_put c.args.identity.now (g.B.Bus.state c.args.bus.now) (g.met.B.Bus.reaches c.args.bus.now)
    (grind (arith, common_steps)) (c.in_ok-header.ensures.written c.on-writer.ensures.nothing) in
    rw (is_err _ _ c.from_residual-in_err-add_sectors.ensures.1)
    (whole_in_sectors head (vault_seen g.V.Vault.state c.add_sectors.new.writer)
    (g.V.Vault.state c.in_err-add_sectors.vault-in-Break-branch-2-1-own.given.0) c.in_err-add_sectors.ensures.cut
    (search rules))

pub returns-in_err-end-clause-cut : goal.returns-in_err-end-clause-cut
returns-in_err-end-clause-cut g c =
    let head = head_put c.args.identity.now (g.B.Bus.state c.args.bus.now) (g.met.B.Bus.reaches c.args.bus.now)
    (grind (arith, common_steps)) (c.in_ok-header.ensures.written c.on-writer.ensures.nothing) in
    rw (is_err _ _ c.from_residual-in_err-end.ensures.1) (λ telling further chip is shows.
    let all = all_sectors head c.in_ok-add_sectors.ensures.keeps further chip is shows in
    let holds = c.in_err-end.ensures.cut all.content all.written in
    record { content = all.content; same = all.same; saves = all.saves; begins = search rules })
