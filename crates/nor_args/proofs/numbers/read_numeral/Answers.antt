use Rattle.std.proofs.Common.{arith, rules}
use Rattle.nor_args.proofs.Numerals.{numeral-parsed}
use Rattle.nor_args.proofs.numbers.read_numeral.Goals as goal

pub returns-in_err-number : goal.returns-in_err-number
returns-in_err-number c =
    let gives = numeral-parsed c.args.radix c.args.most c.args.greatest c.args.text.now c.from_str_radix.result
    (omega arith) (omega arith) (search rules) (search rules) c.from_str_radix.ensures.value in
    search (rules, gives)
