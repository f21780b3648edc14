-- The configuration of an emulated chip with any unique ID, and the chip type that is found for this configuration.
use Rattle.std.proofs.Common.{◌≡◌, ◌∙◌, List, ℕ, false, Option, Ok, sym, arith}
use Rattle.nor_model.specs.declared.config.Config.{Config}
use Rattle.nor_probe.specs.Known.{IsKnown, shown_as}
use Rattle.nor_probe.proofs.Emulated.{emulated_known, emulated_shown, renumbered_known, renumbered_shown}
use Rattle.flashnor.specs.Chips.{IsConfigWith}
use Rattle.flashnor.specs.Found.{emulated_part}
use Rattle.nor_args.specs.Programmer.{IsConfigOfEmulated}
use Rattle.nor_args.specs.declared.programmer.Emulated.{Emulated}

made_with : (chip : Emulated) (number : Option (List ℕ)) (config : Config) → IsConfigWith chip number config
    → (unique : List ℕ) × IsConfigOfEmulated chip (record config { unique = unique })
made_with chip number config is = grind arith

module _ (chip : Emulated) (number : Option (List ℕ)) (config : Config) (is : IsConfigWith chip number config) where
  made : (unique : List ℕ) × IsConfigOfEmulated chip (record config { unique = unique })
  made = made_with chip number config is

  abbrev plain : Config
  plain = record config { unique = made.0 }

  pub known_with : IsKnown false config
  known_with = renumbered_known false plain config.unique (emulated_known plain (chip.part, chip.emulated, made.1))

  pub shown_with : shown_as false config ≡ Ok (emulated_part chip)
  shown_with = sym (renumbered_shown false config made.0) ∙ emulated_shown chip.part plain chip.emulated made.1
