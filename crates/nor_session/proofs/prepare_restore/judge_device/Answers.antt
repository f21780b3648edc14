use Rattle.std.proofs.Common.{rules}
use Rattle.nor_session.proofs.Reopened.{named_known, other_unit, no_unit, same_unit}
use Rattle.nor_session.proofs.prepare_restore.judge_device.Goals as goal
use Rattle.nor_session.proofs.prepare_restore.judge_device.Goals.{in_default-via-in-None-1, in_default-via-in-Some+else-ne}

pub returns-clause-errors : goal.returns-clause-errors
returns-clause-errors c = λ choice further chip small is kind. (
  named_known chip is.config.known,
  kind,
  other_unit c.args.journal.now chip.config c.in-Some.unique (search rules) (λ same. absurd (let read = is.unique in search rules)),
)

pub returns-then-has_fixed-clause-fits : goal.returns-then-has_fixed-clause-fits
returns-then-has_fixed-clause-fits c = λ further chip small is kind. record {
  named = named_known chip is.config.known;
  kind = kind;
  unit = elim c.in_default.branch [
    | in_default-via-in-None-1 w ↦ no_unit c.args.journal.now chip.config (search rules)
    | in_default-via-in-Some+else-ne w ↦ let read = is.unique in same_unit c.args.journal.now chip.config w.in-Some.unique (search rules) (search rules)
  ];
  fixed = let returned = c.has_fixed.ensures.shows further chip small is in search rules;
}

pub returns-else-has_fixed-clause-errors : goal.returns-else-has_fixed-clause-errors
returns-else-has_fixed-clause-errors c = λ choice further chip small is kind. (
  named_known chip is.config.known,
  kind,
  elim c.in_default.branch [
    | in_default-via-in-None-1 w ↦ no_unit c.args.journal.now chip.config (search rules)
    | in_default-via-in-Some+else-ne w ↦ let read = is.unique in same_unit c.args.journal.now chip.config w.in-Some.unique (search rules) (search rules)
  ],
  (let returned = c.has_fixed.ensures.shows further chip small is in search rules),
)
