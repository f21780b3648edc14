use Rattle.std.proofs.Common.{◌≡◌, ℕ, ◌-◌, ◌^◌, false, [], length, append-nil, arith}
use Rattle.std.specs.Fmt.{char_count, digits, format_spec, padded_integral}
use Rattle.nor_request.specs.Texts.{hex_digits}

pub padded_hex : (width number : ℕ)
    → padded_integral (format_spec 32 0 4 width (2 ^ 64 - 1)) false [] (digits 16 false number) ≡ hex_digits width number
unfolding padded_integral char_count
padded_hex width number =
    let short : width - length (digits 16 false number) - 0 - 0 ≡ width - length (digits 16 false number) = omega arith in
    rw (short, append-nil (digits 16 false number))
