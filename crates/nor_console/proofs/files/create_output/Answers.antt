use Rattle.nor_console.proofs.files.create_output.Goals as goal

pub returns-in-Err-clause-err : goal.returns-in-Err-clause-err
returns-in-Err-clause-err g c = c.making.ensures (g.R.Store.state c.args.rt.now).view c.in-Err.ensures.unmade
