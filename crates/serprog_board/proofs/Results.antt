-- A lemma on results that are errors.
use Rattle.std.proofs.Common.{IfOk, Err, Ok, Result}
use Rattle.std.specs.Prelude.{IsErrAnd}

-- If `result` is an error, `IfOk result P` holds. (In a goal about a whole bus, the search doesn't find this.)
pub none_ok : {T E : Type 0} (P : T → Type 0) (Q : E → Type 0) (result : Result T E) → IsErrAnd result Q
    → IfOk result P
none_ok P Q (Ok value) failed = absurd failed
none_ok P Q (Err error) failed = tt
