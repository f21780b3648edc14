use Rattle.std.proofs.Common.{refl}
use Rattle.serprog_runs.proofs.LogMade.{log_seen}
use Rattle.serprog_runs.proofs.Ran.{few_after, unused}
use Rattle.serprog_runs.proofs.SealedRuns.{lawful_made}
use Rattle.serprog_runs.proofs.run.run_on_chip.Goals as goal

pub returns-in-Ok-clause-ran : goal.returns-in-Ok-clause-ran
returns-in-Ok-clause-ran g c = record {
  start = c.in-Ok.field-0.connected;
  same_device = refl;
  named = c.in-Ok.ensures.named;
  fresh = c.in-Ok.ensures.fresh;
  finds = c.in-Ok.ensures.finds;
  ahead = c.in-Ok.ensures.ahead;
  regions = c.in-Ok.field-0.regions.items;
  ranges = c.in-Ok.field-0.sources.included;
  bytes = c.in-Ok.field-0.sources.bytes.items;
  image = c.in-Ok.ensures.expected;
  prepared = c.in-Ok.ensures.ok;
  made = (g.R.Store.state c.prepare.new.files).view;
  logged = log_seen c.args.operation.now.log (g.R.Store.state c.args.files.now)
      (g.R.Store.state c.prepare.new.files) c.prepare.ensures.logged;
  ran = rw c.deref.ensures.value at c.run_prepared-status.ensures.ran;
}

pub returns-then-not-is_new-clause-ran : goal.returns-then-not-is_new-clause-ran
returns-then-not-is_new-clause-ran g c = unused _ c.args.used.now c.requires.used

pub returns-in-Err-clause-ran : goal.returns-in-Err-clause-ran
returns-in-Err-clause-ran g c = unused _ c.args.used.now c.requires.used

pub returns-in-Ok-clause-few : goal.returns-in-Ok-clause-few
returns-in-Ok-clause-few g c = few_after _ _ _ _ _ _ _ _ _ _ _ c.args.operation.now.srp0 c.run_prepared-status.ensures.ran

pub returns-in-Ok-clause-wired : goal.returns-in-Ok-clause-wired
returns-in-Ok-clause-wired g c = g.met.D.Board.Board.accounts c.run_prepared-status.new.bus.bus.bus

pub returns-then-not-is_new-clause-wired : goal.returns-then-not-is_new-clause-wired
returns-then-not-is_new-clause-wired g c = unused _ c.args.used.now c.requires.used

pub returns-in-Err-clause-wired : goal.returns-in-Err-clause-wired
returns-in-Err-clause-wired g c = unused _ c.args.used.now c.requires.used

pub returns-in-Ok-clause-sealed : goal.returns-in-Ok-clause-sealed
returns-in-Ok-clause-sealed g c = λ lawful. record {
  start = _;
  fresh = c.in-Ok.ensures.fresh;
  seals = c.run_prepared-status.ensures.sealed (lawful_made c.args.operation.now.log (g.R.Store.state c.args.files.now)
      (g.R.Store.state c.prepare.new.files) c.prepare.ensures.logged lawful);
}

pub returns-then-not-is_new-clause-sealed : goal.returns-then-not-is_new-clause-sealed
returns-then-not-is_new-clause-sealed g c = λ lawful. unused _ c.args.used.now c.requires.used

pub returns-in-Err-clause-sealed : goal.returns-in-Err-clause-sealed
returns-in-Err-clause-sealed g c = λ lawful. unused _ c.args.used.now c.requires.used
