use Rattle.nor_console.proofs.Lent.{kept_file, lawful_after, others_stay, sealed_durable}
use Rattle.nor_console.proofs.calls.backup_in_file.Goals as goal

pub returns-clause-ok : goal.returns-clause-ok
returns-clause-ok g c = record {
  missing = c.in_ok-journal.ensures.missing;
  vault = _;
  vault' = _;
  fresh = c.in_ok-journal.ensures.fresh;
  kept_in = kept_file _ _ _ _ _ c.create_journal.ensures.nature c.in_ok-journal.ensures.borrows
      c.return_vault.ensures.nature c.return_vault.ensures.takes;
  ran = c.run_backup-outcome.ensures;
}

pub returns-clause-others : goal.returns-clause-others
returns-clause-others g c =
    others_stay c.args.file.now (g.R.Store.state c.args.rt.now) (g.R.Store.state c.create_journal.new.rt)
    (g.R.Store.state c.return_vault.new.self) _ c.create_journal.ensures.nature c.in_ok-journal.ensures.borrows
    c.return_vault.ensures.nature c.return_vault.ensures.takes

pub returns-clause-synced : goal.returns-clause-synced
returns-clause-synced g c lawful = record {
  lent = c.in_ok-journal.journal;
  ended = c.run_backup-outcome.new.vault;
  fresh = c.in_ok-journal.ensures.fresh;
  telling = c.in_ok-journal.ensures.telling lawful;
  ran = c.run_backup-outcome.ensures;
  durable = sealed_durable g.R.Filed.Vault.state g.R.Filed.DurableVault.contents g.R.Filed.DurableVault.synced
      g.met.R.Filed.DurableVault.holds g.met.R.Filed.DurableVault.is_synced;
  kept_in = kept_file _ _ _ _ _ c.create_journal.ensures.nature c.in_ok-journal.ensures.borrows
      c.return_vault.ensures.nature c.return_vault.ensures.takes
      (lawful_after c.return_vault.ensures.nature (lawful_after c.create_journal.ensures.nature lawful));
}
