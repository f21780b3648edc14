use Rattle.std.proofs.Common.{◌≡◌, ◌∙◌, List, ℕ, true, sym, subst, inl, inr}
use Rattle.std.proofs.lemmas.Bool.{and_parts}
use Rattle.nor_model.specs.declared.config.Config.{Config}
use Rattle.nor_buses.specs.Keeps.{KeepsAll, MakesStep}
use Rattle.nor_buses.specs.Listed.{is_id_listed}
use Rattle.nor_buses.specs.SomeChips.{chip_id}
use Rattle.nor_buses.specs.KeptQuad.{kept_by, rows_of, hides_of}
use Rattle.nor_buses.proofs.Plain.{bit6_same, plain_listed, polled_kept}
use Rattle.nor_buses.proofs.Polls.{made_then}
use Rattle.nor_buses.proofs.ReadsKeep.{stops_at, stops_then, step_of, keeps_none, on_err}
use Rattle.nor_buses.proofs.SomeChips.{fits_only}
use Rattle.nor_buses.proofs.kept_quad.KeptQuad.carry.Goals as goal

pub returns-in_err-hide-clause-stops : goal.returns-in_err-hide-clause-stops
returns-in_err-hide-clause-stops g c fits =
    let old = g.B.Bus.state (kept_by c.args.self.now) in
    let mid = g.B.Bus.state c.transfer.new.self in
    let honest = (and_parts _ _ fits.honest).0 in
    let made : MakesStep c.args.out.now c.transfer.new.reply old mid =
    step_of (c.in_ok-transfer.ensures.carries (fits_only _ _ fits)) in
    let poll = c.is_poll.ensures.poll c.if-is_poll.true in
    let idle = c.in_err-hide.ensures.idles in
    let keeps : KeepsAll old mid =
    polled_kept c.args.out.now c.transfer.new.reply poll.0 idle.0 poll.1 idle.1 made in
    elim (plain_listed (rows_of c.args.self.now) (hides_of c.args.self.now) old.chip.config
    (and_parts _ _ fits.honest).1) [
      | inl off ↦ absurd (c.in_err-hide.ensures.stays (c.args.self.now.plain.shown off)).1
      | inr listed ↦
          on_err c.from_residual-in_err-hide.result
          (stops_at (stops_then c.transfer.ensures.nature.steady keeps
          (c.in_err-hide.ensures.stops (c.transfer.ensures.nature.honest ∙ honest)
          (subst (λ (config : Config). is_id_listed (rows_of c.args.self.now) (chip_id config) ≡ true)
          (sym (c.transfer.ensures.nature.config honest)) listed))))
    ]

pub returns-in_ok-hide-clause-steps : goal.returns-in_ok-hide-clause-steps
returns-in_ok-hide-clause-steps g c fits =
    let old = g.B.Bus.state (kept_by c.args.self.now) in
    let mid = g.B.Bus.state c.transfer.new.self in
    let new = g.B.Bus.state (kept_by c.hide.new.self) in
    let honest = (and_parts _ _ fits.honest).0 in
    let bit6 = (and_parts _ _ fits.honest).1 in
    let then_honest : mid.honest ≡ true = c.transfer.ensures.nature.honest ∙ honest in
    let made : MakesStep c.args.out.now c.transfer.new.reply old mid =
    step_of (c.in_ok-transfer.ensures.carries (fits_only _ _ fits)) in
    let keeps : KeepsAll mid new =
    elim (plain_listed (rows_of c.args.self.now) (hides_of c.args.self.now) old.chip.config bit6) [
      | inl off ↦ rw (c.in_ok-hide.ensures.stays (c.args.self.now.plain.shown off)).0 keeps_none
      | inr listed ↦
          c.in_ok-hide.ensures.keeps then_honest
          (subst (λ (config : Config). is_id_listed (rows_of c.args.self.now) (chip_id config) ≡ true)
          (sym (c.transfer.ensures.nature.config honest)) listed)
    ] in
    let hidden = c.hide.new.self.plain.none (c.hide.ensures.nature.honest ∙ then_honest)
    (bit6_same c.hide.ensures.rows c.hide.ensures.same
    (c.hide.ensures.nature.config then_honest ∙ c.transfer.ensures.nature.config honest) ∙ bit6) in
    subst (λ (reply : List ℕ). MakesStep c.args.out.now reply old new) (sym (c.hide.ensures.whole hidden))
    (made_then made keeps)

pub returns-else-is_poll-clause-steps : goal.returns-else-is_poll-clause-steps
returns-else-is_poll-clause-steps g c fits = step_of (c.in_ok-transfer.ensures.carries (fits_only _ _ fits))
