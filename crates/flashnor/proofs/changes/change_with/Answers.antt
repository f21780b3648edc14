use Rattle.std.proofs.Common.{arith, refl}
use Rattle.nor_journal.specs.MemVault.{held_by}
use Rattle.flashnor.proofs.Doing.{made_in_file, unmade_file}
use Rattle.flashnor.proofs.changes.change_with.Goals as goal

pub returns-in-Journal-clause-ok : goal.returns-in-Journal-clause-ok
returns-in-Journal-clause-ok g c = λ modelled punctual steady_or_idle.
    rw c.in-Journal.is (made_in_file _ _ _ _ _ _ _ c.session_in_file.result modelled (g.met.B.Bus.reaches c.args.bus.now modelled.honest) steady_or_idle
    c.session_in_file.ensures.ok)

pub returns-in-Journal-clause-others : goal.returns-in-Journal-clause-others
returns-in-Journal-clause-others g c = λ is name not.
    c.session_in_file.ensures.others is name (rw c.in-Journal.is at not)

pub returns-in-Journal-clause-unmade : goal.returns-in-Journal-clause-unmade
returns-in-Journal-clause-unmade g c = λ is.
    rw c.in-Journal.is (unmade_file _ _ _ c.session_in_file.result (c.session_in_file.ensures.unmade is))

pub returns-in-Rehearse-clause-ok : goal.returns-in-Rehearse-clause-ok
returns-in-Rehearse-clause-ok g c = λ modelled punctual steady_or_idle. rw c.in-Rehearse.is (record {
  missing = tt;
  vault = held_by c.new-vault.result;
  vault' = held_by c.rehearse_change.new.vault;
  fresh = grind (arith, c.new-vault.ensures);
  kept_in = refl;
  done = rw (← c.as_slice.ensures.value) (c.rehearse_change.ensures modelled punctual steady_or_idle);
})
