use Rattle.std.proofs.Common.{lit<, refl, rules}
use Rattle.std.proofs.lemmas.Iterator.Search.{find_from_yields_List}
use Rattle.std.proofs.lemmas.Iterator.Splits.{YieldsList-from_str_split}
use Rattle.nor_args.specs.Programmer.{has_key}
use Rattle.nor_args.proofs.settings.setting_value.Goals as goal

pub returns-in_err-setting : goal.returns-in_err-setting
returns-in_err-setting c =
    let split = c.split.ensures in
    let found = find_from_yields_List (has_key c.args.key.now) _ _ c.find.result c.find.ensures.ran
    (YieldsList-from_str_split 44 c.args.list.now (lit< tt) split.text split.has_more split.pattern)
    (λ x b q called. search rules) in
    rw (c.from_residual.ensures, ← found, c.in_err-setting.was) refl

pub returns : goal.returns
returns c =
    let split = c.split.ensures in
    let found = find_from_yields_List (has_key c.args.key.now) _ _ c.find.result c.find.ensures.ran
    (YieldsList-from_str_split 44 c.args.list.now (lit< tt) split.text split.has_more split.pattern)
    (λ x b q called. search rules) in
    rw (← found, c.in_ok-setting.was, c.split_setting.ensures.1) refl
