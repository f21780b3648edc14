use Rattle.std.proofs.Common.{◌∙◌, List, ap, ap₂, sym}
use Rattle.std.proofs.lemmas.List.Folds.{fold-map}
use Rattle.std.proofs.lemmas.Result.{IfOk-weaker}
use Rattle.clap.specs.Words.{App, Rule, app_of, with_rule}
use Rattle.nor_args.specs.Options.{chosen, most_rules, with_rules}
use Rattle.nor_args.proofs.options.make_options.Goals as goal

pub returns : goal.returns
returns c =
    let mapped = c.in_ok-chosen.ensures
    ∙ sym (fold-map with_rule chosen (app_of c.new_command.result) c.choices.result.now) in
    let listed = mapped
    ∙ ap (λ (rules : List Rule). with_rules (app_of c.new_command.result) rules) c.choices.ensures in
    let all = listed ∙ ap (λ (app : App). with_rules app most_rules) c.new_command.ensures in
    IfOk-weaker c.arg.result _ _ (λ command adds.
    adds.shape c.help_option.ensures.local ∙ ap₂ with_rule all c.help_option.ensures.rule) c.arg.ensures
