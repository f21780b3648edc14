use Rattle.std.proofs.Common.{◌∙◌, ◌∷◌, [], ap, map}
use Rattle.nor_args.specs.Text.{Text}
use Rattle.std.proofs.lemmas.List.{take_all}
use Rattle.std.proofs.lemmas.Result.{IfOk-weaker}
use Rattle.std.specs.List.{join_by}
use Rattle.board_files.specs.Regions.{name_in}
use Rattle.board_files.proofs.RegionNames.{joined}
use Rattle.board_files.proofs.region_files.names_in.Goals as goal

pub returns : goal.returns
returns c =
    let all = take_all c.loop-entry.entry-index c.deref-entry-items.result.now c.loop-entry-test.false in
    let names = c.loop-entry.invariant
    ∙ ap (λ some. map name_in (map (λ entry. entry.now) some)) (all ∙ c.deref-entry-items.ensures.value)
    ∙ ap (map name_in) c.in_ok-entries.ensures in
    IfOk-weaker c.join.result _ _ (λ text is. is ∙ joined (44 ∷ []) c.loop-entry.names.items
    ∙ ap (join_by (λ (name : Text). name) (44 ∷ [])) names) (rw c.deref.ensures.value at c.join.ensures.ok)
