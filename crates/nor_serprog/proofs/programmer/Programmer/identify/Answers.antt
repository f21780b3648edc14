use Rattle.std.proofs.Common.{refl}
use Rattle.nor_serprog.proofs.Handshaken.{returns_error, is_whole, same_error}
use Rattle.nor_serprog.proofs.programmer.Programmer.identify.Goals as goal

pub returns-in_err-reported-clause-identifies : goal.returns-in_err-reported-clause-identifies
returns-in_err-reported-clause-identifies g c awaits whole =
    returns_error c.from_residual.result c.from_residual.ensures.1
    (same_error (c.in_err-reported.ensures.identifies awaits whole))

pub returns-clause-identifies : goal.returns-clause-identifies
returns-clause-identifies g c awaits whole = is_whole _ (c.in_ok-reported.ensures.identifies awaits whole) refl
