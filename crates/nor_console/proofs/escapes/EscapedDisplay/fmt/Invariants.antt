use Rattle.std.proofs.Common.{◌≡◌, ℕ, List, ◌++◌, IsUtf8}
use Rattle.std.specs.Fmt.{HasWritten, IsPlainFormatter}
use Rattle.std.specs.Str.Iter.{chars_rest}
use Rattle.nor_console.specs.Escapes.{escaped}
use Rattle.nor_console.proofs.escapes.EscapedDisplay.fmt.Given as goal

abbrev pub invariant-loop-character : goal.invariant-loop-character
invariant-loop-character g l = IsUtf8 (chars_rest l.character-iterator)
    × (IsPlainFormatter l.initial.f → (done : List ℕ) × HasWritten g.W.Write.write_str_gives l.initial.f done l.f
    × (done ++ escaped (chars_rest l.character-iterator) ≡ escaped l.fn.self.0.now))
