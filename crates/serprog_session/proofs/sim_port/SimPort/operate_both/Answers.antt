use Rattle.std.proofs.Common.{◌≡◌, ◌∙◌, ◌++◌, ◌∷◌, rules, refl, sym, ap, inl, inr, List, [], ℕ}
use Rattle.serprog_session.proofs.Pairs.{pair_opcode, pair_not_one, is_pair, both_operated, both_cut, stepped, was_cut, two_replies}
use Rattle.serprog_session.proofs.Replying.{no_operation}
use Rattle.serprog_session.proofs.Simulated.{empty}
use Rattle.serprog_session.proofs.sim_port.SimPort.operate_both.Goals as goal

pub returns-clause-sent : goal.returns-clause-sent
returns-clause-sent c =
    let bus_type = c.args.self.now.bus_type in
    let first =
    stepped _ _ _ _ _ c.sent_by-2.ensures
    (c.transact.ensures bus_type c.args.self.now.pending.items (0x06 ∷ c.transact.new.reply)) in
    let second =
    stepped _ _ _ _ _ c.sent_by-3.ensures
    (c.transact-2.ensures bus_type (0x06 ∷ c.transact.new.reply) c.both_acknowledged-self.result.items) in
    let none : c.args.self.now.pending.items ≡ [] =
    empty c.args.self.now.pending.items (sym c.is_empty.ensures ∙ c.if-is_empty.true) in
    record {
      left = search rules;
      firmware = refl;
      replies = λ commands asks.
          absurd (no_operation commands c.args.bytes.now asks.frames asks.replies (pair_opcode _ _ _ c.requires));
      done = λ whole. absurd (pair_not_one _ _ _ _ c.requires refl whole);
      both = λ front back both.
          both_operated _ _ _ front back _ _ c.requires (is_pair front back _ _ refl both)
          (record {
            between = _;
            former = record {
              answer = c.transact.new.reply;
              len = c.transact.auto.reply ∙ sym c.requires.operations.unanswered;
              steps = first;
              begun = refl;
              settings = refl;
              pending = sym (ap (λ (before : List ℕ). before ++ 0x06 ∷ c.transact.new.reply) none);
            };
            latter = record {
              answer = c.transact-2.new.reply;
              len = search rules;
              steps = second;
              begun = refl;
              settings = refl;
              pending = c.both_acknowledged-self.ensures
                  ∙ two_replies c.transact.new.reply c.transact-2.new.reply c.transact.auto.reply;
            };
          });
    }

pub returns-in_default-clause-cut_off : goal.returns-in_default-clause-cut_off
returns-in_default-clause-cut_off c = record {
  firmware = refl;
  none_left_for_commands = λ commands asks short.
      absurd (no_operation commands c.args.bytes.now asks.frames asks.replies (pair_opcode _ _ _ c.requires));
  power = λ commands asks.
      absurd (no_operation commands c.args.bytes.now asks.frames asks.replies (pair_opcode _ _ _ c.requires));
  none_left = λ whole. absurd (pair_not_one _ _ _ _ c.requires refl whole);
  left = search rules;
  cut = λ whole. absurd (pair_not_one _ _ _ _ c.requires refl whole);
  cut_both = λ front back both.
      let pending = c.args.self.now.pending.items in
      let first =
      was_cut _ _ _ _ c.sent_by.ensures
      (c.cut.ensures c.args.self.now.bus_type pending pending) in
      both_cut _ _ _ front back _ _ c.requires
      (is_pair front back _ _ refl both) (inl first);
}

pub returns-then-self-eq1-clause-cut_off : goal.returns-then-self-eq1-clause-cut_off
returns-then-self-eq1-clause-cut_off c = record {
  firmware = refl;
  none_left_for_commands = λ commands asks short.
      absurd (no_operation commands c.args.bytes.now asks.frames asks.replies (pair_opcode _ _ _ c.requires));
  power = λ commands asks.
      absurd (no_operation commands c.args.bytes.now asks.frames asks.replies (pair_opcode _ _ _ c.requires));
  none_left = λ whole. absurd (pair_not_one _ _ _ _ c.requires refl whole);
  left = search rules;
  cut = λ whole. absurd (pair_not_one _ _ _ _ c.requires refl whole);
  cut_both = λ front back both.
      let bus_type = c.args.self.now.bus_type in
      let pending = c.args.self.now.pending.items in
      let first =
      stepped _ _ _ _ _ c.sent_by-2.ensures
      (c.transact.ensures bus_type pending (0x06 ∷ c.transact.new.reply)) in
      let second =
      was_cut _ _ _ _ c.sent_by-then-self-eq1.ensures
      (c.cut-then-self-eq1.ensures bus_type (0x06 ∷ c.transact.new.reply) pending) in
      let none : c.args.self.now.pending.items ≡ [] =
      empty c.args.self.now.pending.items (sym c.is_empty.ensures ∙ c.if-is_empty.true) in
      both_cut _ _ _ front back _ _ c.requires
      (is_pair front back _ _ refl both)
      (inr (record {
        between = _;
        former = record {
          answer = c.transact.new.reply;
          len = c.transact.auto.reply ∙ sym c.requires.operations.unanswered;
          steps = first;
          begun = refl;
          settings = refl;
          pending = sym (ap (λ (before : List ℕ). before ++ 0x06 ∷ c.transact.new.reply) none);
        };
        cut = second;
      }));
}
