use Rattle.std.proofs.Common.{◌≡◌, ap}
use Rattle.std.specs.Prelude.{Result, Ok, Err, IsErrAnd}

pub is_err : {T E : Type 0} (outcome : Result T E) (error : E) → IsErrAnd outcome (λ passed. passed ≡ error)
    → outcome ≡ Err error
is_err (Ok value) error is = absurd is
is_err (Err passed) error is = ap Err is
