use Rattle.std.specs.Prelude.{◌+◌, ◌*◌, ◌/◌, ◌%◌, ℕ, List, [], ◌∷◌}
use Rattle.nor_model.specs.declared.status.Status.{Status}

abbrev pub bytes_of : Status → List ℕ
bytes_of status = status.one.0 ∷ status.two.0 ∷ []

-- The bytes of both registers with the protection bits of `code`. BUSY, WEL and (for a code below 64) SUS are clear.
abbrev pub bytes_with_code : Status → ℕ → List ℕ
bytes_with_code status code =
    (128 * (status.one.0 / 128) + 4 * (code % 32)) ∷ (status.two.0 % 64 + 64 * (code / 32)) ∷ []
