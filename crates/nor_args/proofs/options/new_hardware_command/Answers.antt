use Rattle.std.proofs.Common.{rules}
use Rattle.clap.specs.Simple.{app_of_fields}
use Rattle.nor_args.proofs.options.new_hardware_command.Goals as goal

pub returns : goal.returns
returns c = search (rules, app_of_fields)
