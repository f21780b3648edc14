use Rattle.std.proofs.Common.{rules, refl, ◌∙◌, sym}
use Rattle.nor_chip.proofs.spoilt.SpoiltBusBus.transfer.Goals as goal
use Rattle.nor_chip.proofs.spoilt.SpoiltBusBus.transfer.Goals.{in-Some, in-None+in_default}

pub returns-clause-spoils : goal.returns-clause-spoils
returns-clause-spoils g c =
    elim c.match-withheld.branch [
      | in-Some w ↦
          let kept = sym c.withheld.ensures ∙ w.in-Some.is in
          record {
            spoil = rw w.self-is refl;
            counted = rw (c.saturating_add-self.ensures, w.self-is) refl;
            uncounted = tt;
            withheld = rw kept record {
              answered = refl;
              inner = rw w.self-is refl;
              replies = w.reply-is ∙ w.fill.ensures.after (λ byte same. same);
            };
            passed_on = rw kept tt;
          }
      | in-None+in_default w ↦
          let passed = sym c.withheld.ensures ∙ w.in-None.is in
          record {
            spoil = rw w.self-is refl;
            counted = rw (c.saturating_add-self.ensures, w.self-is) refl;
            uncounted = tt;
            withheld = rw passed tt;
            passed_on = rw (passed, w.self-is, w.reply-is) record {
              replied = w.transfer.new.reply;
              as_many = search rules;
              replies = w.spoil_all.ensures;
              inner = w.in_default.ensures.carries;
            };
          }
    ]
