use Rattle.std.proofs.Common.{◌≡◌, ℕ, ◌+◌, ◌<◌, List, [], ◌∷◌, ◌++◌, add-one, append-nil, flat_map, get_or, length}
use Rattle.std.proofs.Common.{refl, rules, take}
use Rattle.std.proofs.Math.Seq.{take-suc}
use Rattle.std.proofs.Output.{has_written_append, has_written_of_eq}
use Rattle.std.proofs.lemmas.Grind.{flat_map-append}
use Rattle.nor_request.proofs.Printed.{padded_hex}
use Rattle.nor_console.specs.Escapes.{escaped_byte}
use Rattle.nor_console.proofs.escapes.EscapedCharacterDisplay.fmt.Goals as goal

escaped_more : (bytes : List ℕ) (i : ℕ) → i < length bytes
    → flat_map escaped_byte (take i bytes) ++ escaped_byte (get_or bytes i 0) ≡ flat_map escaped_byte (take (i + 1) bytes)
escaped_more bytes i below =
    let byte = get_or bytes i 0 in
    rw (add-one, take-suc bytes i 0 below, flat_map-append escaped_byte (take i bytes) (byte ∷ []))
    (rw (append-nil (escaped_byte byte)) refl)

pub loop-byte-preserved : goal.loop-byte-preserved
loop-byte-preserved g c = λ plain.
    let so_far = c.loop-byte.invariant plain in
    let digits = rw (c.laid_out.ensures, c.in_radix.ensures, padded_hex 2) at c.in_ok-write.ensures.writes in
    has_written_of_eq _ _ _ _ _ (escaped_more _ c.loop-byte.byte-index (search rules))
    (has_written_append _ _ _ _ _ _ so_far (digits so_far.plain refl))
