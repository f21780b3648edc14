use Rattle.std.proofs.lemmas.Result.{err_from_is_err_and}
use Rattle.nor_args.proofs.Asked.{hardware_asked-by_words}
use Rattle.nor_args.proofs.Taken.{hardware_options_are_free, hardware_options_are_simple}
use Rattle.nor_args.proofs.Taken.{hardware-wrong, none-refused, rows-taken}
use Rattle.nor_args.proofs.words.operation_of.Goals as goal

pub returns : goal.returns
returns c =
    let same = c.in_ok-make_hardware_options.ensures in
    let taken = none-refused _ _ same _ c.in_ok-matches.matches (hardware_options_are_free c.args.help.program.now) c.in_ok-matches.ensures.kinds in
    let rows = rows-taken _ _ same _ c.in_ok-matches.matches (hardware_options_are_simple c.args.help.program.now) c.in_ok-matches.ensures.matches
    in
    hardware_asked-by_words _ _ _ _ taken (rw rows at c.of_hardware.ensures) c.hardware_job.ensures

pub returns-in_err-matches : goal.returns-in_err-matches
returns-in_err-matches c =
    let p = err_from_is_err_and c.from_residual-in_err-matches.result c.from_residual-in_err-matches.ensures.1 in
    rw p.1 (hardware-wrong _ _ c.in_ok-make_hardware_options.ensures _ _ _ c.in_err-matches.ensures.kinds p.2)
