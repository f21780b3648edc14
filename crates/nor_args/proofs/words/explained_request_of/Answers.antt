use Rattle.std.proofs.Common.{Ok}
use Rattle.std.proofs.lemmas.Result.{err_from_is_err_and}
use Rattle.nor_args.proofs.Asked.{asked-by_words, wrong-by_words}
use Rattle.nor_args.proofs.Taken.{none-refused, options_are_free, options_are_simple, refused-wrong, rows-taken}
use Rattle.nor_args.proofs.words.explained_request_of.Goals as goal

pub returns-in_err-matches : goal.returns-in_err-matches
returns-in_err-matches c =
    let p = err_from_is_err_and c.from_residual-in_err-matches.result c.from_residual-in_err-matches.ensures.1 in
    rw p.1 (refused-wrong _ _ c.in_ok-make_options.ensures _ _ c.in_err-matches.ensures.kinds p.2)

pub returns-in-Ok : goal.returns-in-Ok
returns-in-Ok c =
    let same = c.in_ok-make_options.ensures in
    let taken = none-refused _ _ same _ c.in_ok-matches.matches options_are_free c.in_ok-matches.ensures.kinds in
    let rows = rows-taken _ _ same _ c.in_ok-matches.matches options_are_simple c.in_ok-matches.ensures.matches in
    asked-by_words _ _ (Ok c.in-Ok.job) taken (rw rows at c.of-given.ensures) c.in-Ok.ensures

pub returns : goal.returns
returns c =
    let same = c.in_ok-make_options.ensures in
    let taken = none-refused _ _ same _ c.in_ok-matches.matches options_are_free c.in_ok-matches.ensures.kinds in
    let rows = rows-taken _ _ same _ c.in_ok-matches.matches options_are_simple c.in_ok-matches.ensures.matches in
    wrong-by_words _ _ _ c.explained.result taken (rw rows at c.of-given.ensures) c.in-Err.ensures
    c.explained.ensures.fault c.explained.ensures.reason
