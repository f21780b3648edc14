use Rattle.std.proofs.Common.{◌≡◌, ◌∙◌, ◌++◌, ◌∷◌, rules, refl, sym, ap, List, [], ℕ}
use Rattle.serprog_session.proofs.Pairs.{both_not_one}
use Rattle.serprog_session.proofs.Replying.{no_operation}
use Rattle.serprog_session.proofs.Simulated.{empty}
use Rattle.serprog_session.proofs.sim_port.SimPort.operate.Goals as goal

pub returns-clause-sent : goal.returns-clause-sent
returns-clause-sent c =
    let sent = sym c.sent_by-2.ensures in
    let none : c.args.self.now.pending.items ≡ [] =
    empty c.args.self.now.pending.items (sym c.is_empty.ensures ∙ c.if-is_empty.true) in
    record {
      left = search rules;
      firmware = refl;
      replies = λ commands asks.
          absurd (no_operation commands c.args.frame.now asks.frames asks.replies c.requires.1);
      both = λ first second both. absurd (both_not_one first second c.args.frame.now _ both c.requires.0);
      done = λ whole. record {
        answer = c.transact.new.reply;
        len = search rules;
        steps = rw sent (c.transact.ensures _ _ _);
        begun = refl;
        settings = refl;
        pending = c.acknowledged-self.ensures
            ∙ sym (ap (λ (before : List ℕ). before ++ 0x06 ∷ c.transact.new.reply) none);
      };
    }

pub returns-in_default-clause-cut_off : goal.returns-in_default-clause-cut_off
returns-in_default-clause-cut_off c = record {
  firmware = refl;
  none_left_for_commands = λ commands asks short.
      absurd (no_operation commands c.args.frame.now asks.frames asks.replies c.requires.1);
  power = λ commands asks. absurd (no_operation commands c.args.frame.now asks.frames asks.replies c.requires.1);
  none_left = search rules;
  left = search rules;
  cut = search rules;
  cut_both = λ first second both. absurd (both_not_one first second c.args.frame.now _ both c.requires.0);
}
