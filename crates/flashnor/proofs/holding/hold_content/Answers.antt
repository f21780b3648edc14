use Rattle.std.proofs.Common.{option_map, rules, arith}
use Rattle.flashnor.proofs.Holds.{faults_before, found_before}
use Rattle.flashnor.proofs.holding.hold_content.Goals as goal

pub returns-in_err-status-clause-err : goal.returns-in_err-status-clause-err
returns-in_err-status-clause-err g c =
    let old = g.R.Store.state c.args.rt.now in
    let held = g.R.Store.state c.hold_whole.new.rt in
    let first = c.in_ok-image.ensures in
    let status = c.args.programmer.now.status in
    let fails = faults_before status 2 _ old held first.nature first.stay c.in_err-status.ensures.err in
    search (rules, fails)

pub returns-clause-ok : goal.returns-clause-ok
returns-clause-ok g c =
    let old = g.R.Store.state c.args.rt.now in
    let held = g.R.Store.state c.hold_whole.new.rt in
    let first = c.in_ok-image.ensures in
    record {
      bytes = search rules;
      status = record {
        found = option_map (λ bytes. bytes.items) c.in_ok-status.status;
        is_found = found_before c.args.programmer.now.status 2 _ old held first.nature first.stay c.in_ok-status.ensures.ok;
        whole = search rules;
        same = search rules;
      };
    }

pub returns-clause-stay : goal.returns-clause-stay
returns-clause-stay g c = grind arith
