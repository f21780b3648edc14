use Rattle.std.proofs.Common.{ℕ, ◌+◌, ◌*◌, ◌∙◌, ap, slice_index, if◌then◌else◌, option_copied}
use Rattle.std.proofs.lemmas.List.{get_or-replicate}
use Rattle.nor_layout.specs.Sectors.{includes}
use Rattle.nor_layout.proofs.included.blank_excluded.Goals as goal

pub returns : goal.returns
returns c i lt =
    c.fill_excluded.ensures.bytes i lt
    ∙ ap (λ (n : ℕ). if includes (option_copied c.args.included) (4096 * c.args.sector + i) then slice_index c.args.bytes.now i else n) (get_or-replicate 4096 i 255 0 lt)
