use Rattle.std.proofs.Common.{◌∙◌, ap, ap₂}
use Rattle.std.proofs.lemmas.Result.{IfOk-weaker}
use Rattle.clap.specs.Words.{App, with_rule}
use Rattle.nor_args.specs.Options.{for_hardware, most_rules, own_rules, with_rules}
use Rattle.nor_args.proofs.Hardware.{own-added, shared-added}
use Rattle.nor_args.proofs.options.make_hardware_options.Goals as goal

pub returns : goal.returns
returns c =
    let shared = c.in_ok-shared.ensures ∙ shared-added _ c.choices.result.now c.choices.ensures
    ∙ ap (λ (app : App). with_rules app (for_hardware most_rules)) c.new_hardware_command.ensures in
    let all = c.in_ok-chosen.ensures ∙ own-added _ c.hardware_choices.result.now c.hardware_choices.ensures
    ∙ ap (λ (app : App). with_rules app (for_hardware own_rules)) shared in
    let versioned = c.in_ok-versioned.ensures.shape c.version_option.ensures.local
    ∙ ap₂ with_rule all c.version_option.ensures.rule in
    IfOk-weaker c.arg-2.result _ _ (λ command adds.
    adds.shape c.hardware_help_option.ensures.local ∙ ap₂ with_rule versioned c.hardware_help_option.ensures.rule)
    c.arg-2.ensures
