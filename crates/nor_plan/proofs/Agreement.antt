-- If `old` and `target` agree in all bytes, no bit must go from 0 to 1.
use Rattle.std.proofs.Common.{ℕ, List, ◌∙◌, ap, get_or, bit_and}
use Rattle.std.specs.Int.Bits.{and_self}
use Rattle.nor_plan.specs.Bytes.{AllAgree, NoneRises}

pub agreed_NoneRises : (old target : List ℕ) → AllAgree old target → NoneRises old target
agreed_NoneRises old target agree k within =
    ap (bit_and (get_or target k 0)) (agree k within) ∙ and_self (get_or target k 0)
