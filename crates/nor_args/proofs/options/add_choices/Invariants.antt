use Rattle.std.proofs.Common.{◌≡◌, take}
use Rattle.std.specs.Prelude.{fold}
use Rattle.clap.specs.Words.{app_of}
use Rattle.nor_args.specs.Options.{with_choice}
use Rattle.nor_args.proofs.options.add_choices.Given as goal

abbrev pub invariant-loop-choice : goal.invariant-loop-choice
invariant-loop-choice l = app_of l.longer ≡ fold with_choice (app_of l.fn.command) (take l.choice-index l.choices)
