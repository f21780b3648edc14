use Rattle.nor_console.proofs.Lent.{kept_file, others_stay}
use Rattle.nor_console.proofs.calls.read_to_file.Goals as goal

pub returns-clause-others : goal.returns-clause-others
returns-clause-others g c =
    others_stay c.args.file.now (g.R.Store.state c.args.rt.now) (g.R.Store.state c.create_output.new.rt)
    (g.R.Store.state c.return_vault.new.self) _ c.create_output.ensures.nature c.in_ok-out.ensures.borrows
    c.return_vault.ensures.nature c.return_vault.ensures.takes

pub returns-clause-ok : goal.returns-clause-ok
returns-clause-ok g c = record {
  empty = _;
  filled = _;
  fresh = c.in_ok-out.ensures.fresh;
  read = c.read_into-outcome.ensures;
  holds = λ lawful.
      let kept = kept_file c.args.file.now (g.R.Store.state c.args.rt.now) (g.R.Store.state c.create_output.new.rt)
      (g.R.Store.state c.return_vault.new.self) _
      c.create_output.ensures.nature c.in_ok-out.ensures.borrows c.return_vault.ensures.nature
      c.return_vault.ensures.takes lawful in
      (kept.telling, kept.seen);
}
