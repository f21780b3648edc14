use Rattle.std.proofs.Common.{◌≡◌, ◌+◌, ◌<◌, get_or, sym, ap, ◌∙◌, arith, rules}
use Rattle.std.proofs.lemmas.Grind.{pow_more}
use Rattle.std.proofs.lemmas.Bool.{and_from}
use Rattle.std.proofs.lemmas.List.Folds.{list_all_more}
use Rattle.std.specs.Char.{digit_value}
use Rattle.nor_layout.specs.Address.{is_hex_digit, hex_value}
use Rattle.nor_layout.proofs.Digits.{digit_is, number_of-more, pow-fits}
use Rattle.nor_layout.proofs.address.address.Goals as goal

pub overflow_mul-value : goal.overflow_mul-value
overflow_mul-value c =
    let i = c.loop-byte.byte-index in
    omega (arith, pow_more 16 i, pow-fits (i + 1) (omega arith))

pub overflow_add-value : goal.overflow_add-value
overflow_add-value c =
    let i = c.loop-byte.byte-index in
    omega (arith, pow_more 16 i, pow-fits (i + 1) (omega arith), c.in_ok-value.ensures.value)

pub loop-byte-preserved : goal.loop-byte-preserved
loop-byte-preserved c =
    let i = c.loop-byte.byte-index in
    let digits = c.digits-digits.result.now in
    let byte = get_or digits i 0 in
    let counts : digit_value byte < 16 = search rules in
    let is : c.in_ok-value.field-0 ≡ hex_value byte
    = c.in_ok-value.ensures.value.1 ∙ ap digit_value c.from.ensures ∙ (digit_is byte counts).1 in
    record {
      hexadecimal = list_all_more is_hex_digit digits i 0 (omega arith)
          ∙ and_from _ _ c.loop-byte.invariant.hexadecimal (digit_is byte counts).0;
      fits = omega (arith, pow_more 16 i, c.in_ok-value.ensures.value, c.loop-byte.invariant.fits);
      counts = rw is (sym (number_of-more digits i c.loop-byte.value (omega arith)) ∙ c.loop-byte.invariant.counts);
    }
