use Rattle.std.proofs.Common.{◌≡◌, ◌∙◌, ℕ, ◌/◌, ◌<◌, ◌≤◌, Bool, true, sym, ap, length, arith, inl}
use Rattle.std.proofs.lemmas.Iterator.{items_from_drains}
use Rattle.std.proofs.lemmas.Iterator.Consumers.{YieldsList-from_first}
use Rattle.std.proofs.lemmas.List.{length-map}
use Rattle.nor_geometry.specs.Below.{count_below}
use Rattle.nor_geometry.proofs.Counting.{count_below-most}
use Rattle.nor_plan.specs.Erases.{erases_left}
use Rattle.nor_plan.specs.Planned.{planned}
use Rattle.nor_plan.specs.SectorSet.{has}
use Rattle.nor_session.proofs.announcement.announce_changes.Goals as goal

few_listed : (set : ℕ → Bool) (size listed : ℕ) → size ≤ 16777216 → ((s : ℕ) → set s ≡ true → s < size / 4096)
    → ((end : ℕ) → ((s : ℕ) → set s ≡ true → s < end) → listed ≤ count_below end set) → listed ≤ 4096
few_listed set size listed small below counted =
    omega (arith, counted (size / 4096) below, count_below-most (size / 4096) set)

pub count-erases-requires-clause-fits : goal.count-erases-requires-clause-fits
count-erases-requires-clause-fits g c =
    let is = c.requires.consistent in
    inl (omega (arith, few_listed _ _ _ is.small (λ s raised. is.inside s (is.raised s raised)) c.erases.ensures.counted))

pub overflow_cast-erases : goal.overflow_cast-erases
overflow_cast-erases g c =
    let is = c.requires.consistent in
    let few = few_listed _ _ _ is.small (λ s raised. is.inside s (is.raised s raised)) c.erases.ensures.counted in
    omega (arith, c.count-erases.ensures.bound, few)

pub returns : goal.returns
returns g c =
    let ran = c.count-erases.ensures.ran in
    let items = items_from_drains ran.0 (ran.1.1.0, ran.1.1.1, λ _. (ran.1.0, ran.1.1.2))
    (YieldsList-from_first (λ x. x) erases_left _ c.erases.ensures.planned) in
    let count : c.count-erases.result ≡ length (planned c.args.changes.now.kinds (c.args.changes.now.size / 4096)
    (has c.args.changes.now.raised)) = ran.2 ∙ sym (length-map ran.0 (λ x. x)) ∙ ap length items in
    rw (← count) c.announce.ensures
