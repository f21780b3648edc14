-- Lemmas: adding `CHOICES` (or `HARDWARE_CHOICES`) to a command adds `most_rules` (or `own_rules`) for hardware.
use Rattle.std.proofs.Common.{◌≡◌, ◌∙◌, List, ap, cond, map, sym}
use Rattle.std.specs.Prelude.{fold}
use Rattle.std.proofs.lemmas.List.Folds.{fold-map}
use Rattle.clap.specs.Words.{App, Rule, with_rule}
use Rattle.nor_args.specs.Options.{hardware_form, chosen, for_hardware, is_for_hardware, most_rules, own_rules}
use Rattle.nor_args.specs.Options.{with_hardware_choice, with_rules}
use Rattle.nor_args.specs.declared.options.Choice.{Choice}

abbrev with_hardware_rule : App → Rule → App
with_hardware_rule app rule = cond (is_for_hardware rule.id) (with_rule app (hardware_form rule)) app

from_rows : (app : App) (choices : List Choice) (rules : List Rule) → map chosen choices ≡ rules
    → fold with_hardware_choice app choices ≡ fold with_hardware_rule app rules
from_rows app choices rules is =
    sym (fold-map with_hardware_rule chosen app choices)
    ∙ ap (λ (rules : List Rule). fold with_hardware_rule app rules) is

pub shared-added : (app : App) (choices : List Choice) → map chosen choices ≡ most_rules
    → fold with_hardware_choice app choices ≡ with_rules app (for_hardware most_rules)
shared-added app choices is = from_rows app choices most_rules is

pub own-added : (app : App) (choices : List Choice) → map chosen choices ≡ own_rules
    → fold with_hardware_choice app choices ≡ with_rules app (for_hardware own_rules)
own-added app choices is = from_rows app choices own_rules is
