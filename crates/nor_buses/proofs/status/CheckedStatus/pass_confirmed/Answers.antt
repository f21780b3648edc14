use Rattle.std.proofs.Common.{◌≡◌, ◌∙◌, ◌∷◌, length, refl, sym, ap, subst}
use Rattle.nor_model.specs.Bus.{BusState, IsHonestFor, AtStop}
use Rattle.nor_model.specs.History.{replied}
use Rattle.nor_model.specs.Passed.{Passes}
use Rattle.nor_buses.specs.Checked.{inner_state}
use Rattle.nor_buses.specs.Keeps.{KeepsAll, StopsUnread, MakesStep}
use Rattle.nor_buses.proofs.ReadsKeep.{confirmed_stops, read_made, step_of, on_err}
use Rattle.nor_buses.proofs.Polls.{made_then}
use Rattle.nor_buses.proofs.StatusRead.{confirmed_reads}
use Rattle.nor_buses.proofs.status.CheckedStatus.pass_confirmed.Goals as goal
use Rattle.nor_buses.proofs.status.CheckedStatus.pass_confirmed.Goals.{then-is_changing, else-is_changing, then-out-lt1, in-3, else-out-lt1+in_default-1}

pub returns-in_err-read_id-clause-stops : goal.returns-in_err-read_id-clause-stops
returns-in_err-read_id-clause-stops g c honest =
    let same : inner_state c.if-is_changing.self ≡ inner_state c.args.self.now = elim c.if-is_changing.branch [
      | then-is_changing w ↦ rw w.self-is refl
      | else-is_changing w ↦ rw w.self-is refl
    ] in
    let counted : inner_state c.if-out-lt1.self ≡ inner_state c.pass.new.self = elim c.if-out-lt1.branch [
      | then-out-lt1 w ↦ rw w.self-is refl
      | in-3 w ↦ rw w.self-is refl
      | else-out-lt1+in_default-1 w ↦ rw w.self-is refl
    ] in
    let fits : IsHonestFor c.args.out.now (length c.args.reply.now) (inner_state c.if-is_changing.self) =
    subst (λ (s : BusState). IsHonestFor c.args.out.now (length c.args.reply.now) s) (sym same) honest in
    let nature = c.pass.ensures.law.nature in
    let reads = confirmed_reads c.args.out.now (sym c.is_confirmed.ensures ∙ c.if-is_confirmed.true) in
    on_err c.from_residual-in_err-read_id.result
    (subst (λ (s : BusState). AtStop c.args.out.now s (inner_state c.read_id.new.self)) same
    (confirmed_stops reads nature.steady (c.in_ok-pass.ensures.law.carries fits)
    (subst (λ (s : BusState). StopsUnread s (inner_state c.read_id.new.self)) counted
    (c.in_err-read_id.ensures.stops (ap (λ (s : BusState). s.honest) counted ∙ nature.honest ∙ fits.honest)))))

pub returns-in_ok-read_id-clause-steps : goal.returns-in_ok-read_id-clause-steps
returns-in_ok-read_id-clause-steps g c honest =
    let same : inner_state c.if-is_changing.self ≡ inner_state c.args.self.now = elim c.if-is_changing.branch [
      | then-is_changing w ↦ rw w.self-is refl
      | else-is_changing w ↦ rw w.self-is refl
    ] in
    let counted : inner_state c.if-out-lt1.self ≡ inner_state c.pass.new.self = elim c.if-out-lt1.branch [
      | then-out-lt1 w ↦ rw w.self-is refl
      | in-3 w ↦ rw w.self-is refl
      | else-out-lt1+in_default-1 w ↦ rw w.self-is refl
    ] in
    let fits : IsHonestFor c.args.out.now (length c.args.reply.now) (inner_state c.if-is_changing.self) =
    subst (λ (s : BusState). IsHonestFor c.args.out.now (length c.args.reply.now) s) (sym same) honest in
    let nature = c.pass.ensures.law.nature in
    subst (λ (s : BusState). MakesStep c.args.out.now c.pass.new.reply s (inner_state c.read_id.new.self)) same
    (made_then (step_of (c.in_ok-pass.ensures.law.carries fits))
    (subst (λ (s : BusState). KeepsAll s (inner_state c.read_id.new.self)) counted
    (read_made refl
    (c.in_ok-read_id.ensures.steps (ap (λ (s : BusState). s.honest) counted ∙ nature.honest ∙ fits.honest)))))

pub returns-in_err-pass-clause-passed : goal.returns-in_err-pass-clause-passed
returns-in_err-pass-clause-passed g c =
    let same : inner_state c.if-is_changing.self ≡ inner_state c.args.self.now = elim c.if-is_changing.branch [
      | then-is_changing w ↦ rw w.self-is refl
      | else-is_changing w ↦ rw w.self-is refl
    ] in
    subst (λ (s : BusState). Passes c.args.out.now s.passed (inner_state c.pass.new.self).passed) same
    c.pass.ensures.passed

pub returns-else-is_confirmed-clause-passed : goal.returns-else-is_confirmed-clause-passed
returns-else-is_confirmed-clause-passed g c =
    let same : inner_state c.if-is_changing.self ≡ inner_state c.args.self.now = elim c.if-is_changing.branch [
      | then-is_changing w ↦ rw w.self-is refl
      | else-is_changing w ↦ rw w.self-is refl
    ] in
    let counted : inner_state c.if-out-lt1.self ≡ inner_state c.pass.new.self = elim c.if-out-lt1.branch [
      | then-out-lt1 w ↦ rw w.self-is refl
      | in-3 w ↦ rw w.self-is refl
      | else-out-lt1+in_default-1 w ↦ rw w.self-is refl
    ] in
    subst (λ (s : BusState). Passes c.args.out.now s.passed (inner_state c.if-out-lt1.self).passed) same
    (subst (λ (s : BusState). Passes c.args.out.now (inner_state c.if-is_changing.self).passed s.passed) (sym counted)
    c.pass.ensures.passed)

pub returns-else-is_confirmed-clause-steps : goal.returns-else-is_confirmed-clause-steps
returns-else-is_confirmed-clause-steps g c honest =
    let same : inner_state c.if-is_changing.self ≡ inner_state c.args.self.now = elim c.if-is_changing.branch [
      | then-is_changing w ↦ rw w.self-is refl
      | else-is_changing w ↦ rw w.self-is refl
    ] in
    let counted : inner_state c.if-out-lt1.self ≡ inner_state c.pass.new.self = elim c.if-out-lt1.branch [
      | then-out-lt1 w ↦ rw w.self-is refl
      | in-3 w ↦ rw w.self-is refl
      | else-out-lt1+in_default-1 w ↦ rw w.self-is refl
    ] in
    let fits : IsHonestFor c.args.out.now (length c.args.reply.now) (inner_state c.if-is_changing.self) =
    subst (λ (s : BusState). IsHonestFor c.args.out.now (length c.args.reply.now) s) (sym same) honest in
    subst (λ (s : BusState). MakesStep c.args.out.now c.pass.new.reply s (inner_state c.if-out-lt1.self)) same
    (subst (λ (s : BusState). MakesStep c.args.out.now c.pass.new.reply (inner_state c.if-is_changing.self) s)
    (sym counted) (step_of (c.in_ok-pass.ensures.law.carries fits)))

pub returns-else-is_confirmed-clause-passes : goal.returns-else-is_confirmed-clause-passes
returns-else-is_confirmed-clause-passes g c unconfirmed =
    let same : inner_state c.if-is_changing.self ≡ inner_state c.args.self.now = elim c.if-is_changing.branch [
      | then-is_changing w ↦ rw w.self-is refl
      | else-is_changing w ↦ rw w.self-is refl
    ] in
    let counted : inner_state c.if-out-lt1.self ≡ inner_state c.pass.new.self = elim c.if-out-lt1.branch [
      | then-out-lt1 w ↦ rw w.self-is refl
      | in-3 w ↦ rw w.self-is refl
      | else-out-lt1+in_default-1 w ↦ rw w.self-is refl
    ] in
    ap (λ (s : BusState). s.history) counted ∙ c.in_ok-pass.ensures.carried
    ∙ ap (λ (s : BusState). replied c.args.out.now c.pass.new.reply ∷ s.history) same
