use Rattle.std.proofs.Common.{◌≡◌, ℕ, ◌≤◌, ◌||◌, ◌∷◌, arith}
use Rattle.std.proofs.lemmas.Bool.Decides.{nat_tests}
use Rattle.nor_layout.specs.Positions.{is_in_positions, is_covered, AreRisingFrom, positions_left}
use Rattle.nor_layout.proofs.Fills.{is_covered-below}
use Rattle.nor_layout.proofs.merge.fill_around.Goals as goal

pub loop-part-preserved : goal.loop-part-preserved
loop-part-preserved c =
    let part = c.in-Some.part in
    let more = positions_left c.next.new.self in
    let all = positions_left c.args.positions in
    let done = c.loop-part.done in
    let kept = c.loop-part.invariant in
    let steps : positions_left c.loop-part.part-iterator ≡ part ∷ more = c.in-Some.ensures.steps in
    let rising : AreRisingFrom done (part ∷ more) = rw steps at kept.rising in
    let left : (at : ℕ) → done ≤ at → (is_in_positions part at || is_covered more at) ≡ is_covered all at
    = λ at le. rw steps at (kept.left at le) in
    let copied = c.copy_part.ensures in
    let none = λ (at : ℕ). is_covered-below part.end more at rising.3 in
    grind (arith, nat_tests)
