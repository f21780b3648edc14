use Rattle.std.proofs.Common.{◌≡◌, ℕ, List, [], ◌∷◌, ◌++◌, IsUtf8, ap, append-nil, append_assoc, arith, encode_utf8}
use Rattle.std.proofs.Common.{flat_map, length, rules}
use Rattle.std.proofs.Output.{has_written_append, has_written_of_eq}
use Rattle.std.proofs.lemmas.Str.{IsUtf8-past_char, chars-nil, chars_past_char}
use Rattle.nor_console.specs.Escapes.{escaped, escaped_character}
use Rattle.nor_console.proofs.escapes.EscapedDisplay.fmt.Goals as goal

escaped_step : (text rest : List ℕ) (character : ℕ) → IsUtf8 text → text ≡ encode_utf8 character ++ rest
    → escaped text ≡ escaped_character character ++ escaped rest
escaped_step text rest character utf8 is = ap (flat_map escaped_character) (chars_past_char text rest character utf8 is)

escaped_none : (text : List ℕ) → length text ≡ 0 → escaped text ≡ []
escaped_none [] none = ap (flat_map escaped_character) chars-nil
escaped_none (byte ∷ rest) none = absurd (omega (arith, none))

pub loop-character-preserved : goal.loop-character-preserved
loop-character-preserved g c =
    let held = c.loop-character.invariant in
    let parts = c.in-Some.ensures.steps.0 in (
      IsUtf8-past_char _ _ c.in-Some.character held.0 parts,
      λ plain.
          let so_far = held.1 plain in (
            so_far.0 ++ escaped_character c.in-Some.character,
            has_written_append _ _ _ _ _ _ so_far.1 (search rules),
            rw append_assoc (rw (escaped_step _ _ c.in-Some.character held.0 parts) at so_far.2),
          ),
    )

pub returns-clause-writes : goal.returns-clause-writes
returns-clause-writes g c = λ plain _.
    let so_far = c.loop-character.invariant.1 plain in
    has_written_of_eq _ _ _ _ _ (rw (escaped_none _ c.in-None.ensures.steps.0.0, append-nil) at so_far.2) so_far.1
