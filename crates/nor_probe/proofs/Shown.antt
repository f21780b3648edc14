use Rattle.std.proofs.Common.{◌≡◌, refl}
use Rattle.nor_model.specs.declared.config.Config.{Config}
use Rattle.nor_probe.specs.declared.probes.Parameters.{Parameters}
use Rattle.nor_probe.specs.Sfdp.{sfdp_says}
use Rattle.nor_probe.specs.Known.{chip_says}
use Rattle.nor_probe.specs.Steps.{AreParameters}

pub parameters_say : (config : Config) (parameters : Parameters) → AreParameters config parameters
    → chip_says config ≡ sfdp_says parameters.header parameters.first parameters.table
unfolding chip_says
parameters_say config parameters are = rw (are.header, are.first, are.table) refl
