use Rattle.std.proofs.Common.{◌∙◌, inr, refl, sym, true≢false}
use Rattle.std.proofs.lemmas.Result.{err_from_is_err_and}
use Rattle.flashnor.proofs.Ended.{ends_called}
use Rattle.flashnor.proofs.Before.{stays_but}
use Rattle.nor_console.proofs.Lent.{stays_same}
use Rattle.flashnor.proofs.run.look_at_files.Goals as goal

pub returns-clause-ok : goal.returns-clause-ok
returns-clause-ok g c =
    ends_called (g.R.Store.state c.args.rt.now) (g.R.Store.state c.call_on.new.rt) c.args.job.now _ _ _ (record {
      roles = c.requires.roles;
      nature = c.call_on.ensures.nature;
      content = c.in_ok-content.content;
      read = c.in_ok-content.ensures.ok;
      bus = c.in_ok-called.ensures.ok.0;
      started = c.in_ok-called.ensures.ok.1;
      new = _;
      does = c.in_ok-called.ensures.ok.2;
      reported = rw c.requires.only_reads (refl, refl);
      left = λ rest puts. absurd (true≢false (sym puts ∙ c.requires.only_reads));
      traced = c.in_ok-called.ensures.lost;
      kept = tt;
    }) c.or_fault-answer.ensures

pub returns-in_err-content-clause-keeps : goal.returns-in_err-content-clause-keeps
returns-in_err-content-clause-keeps g c = λ lawful.
    stays_but c.args.job.now (g.R.Store.state c.args.rt.now) _ c.requires.roles
    (λ name _ _. stays_same name (g.R.Store.state c.args.rt.now))

pub returns-in_err-called-clause-keeps : goal.returns-in_err-called-clause-keeps
returns-in_err-called-clause-keeps g c = λ lawful.
    stays_but c.args.job.now (g.R.Store.state c.args.rt.now) _ c.requires.roles (c.in_err-called.ensures.others lawful)

pub returns-clause-keeps : goal.returns-clause-keeps
returns-clause-keeps g c = λ lawful.
    stays_but c.args.job.now (g.R.Store.state c.args.rt.now) _ c.requires.roles (c.in_ok-called.ensures.others lawful)

pub returns-in_err-called-clause-err : goal.returns-in_err-called-clause-err
returns-in_err-called-clause-err g c =
    let p = err_from_is_err_and c.from_residual-in_err-called.result c.from_residual-in_err-called.ensures.1 in
    rw (p.1, p.2) (inr (inr c.in_err-called.ensures.err))
