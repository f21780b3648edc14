use Rattle.std.proofs.Common.{◌∙◌, rules, tests}
use Rattle.std.specs.Prelude.{bytes_eq}
use Rattle.std.proofs.lemmas.Iterator.{YieldsList-from_slice}
use Rattle.std.proofs.lemmas.Iterator.Search.{find_from_yields_List}
use Rattle.nor_probe.specs.Table.{further_chips, name_text}
use Rattle.nor_probe.proofs.table.further_named.Goals as goal

pub returns : goal.returns
returns c =
    c.copied.ensures
    ∙ find_from_yields_List {all = further_chips} (λ part. bytes_eq (name_text part.name) c.args.name.now) _ _ c.find.result c.find.ensures.ran (YieldsList-from_slice further_chips cc) (λ x b q k. search (rules, tests))
