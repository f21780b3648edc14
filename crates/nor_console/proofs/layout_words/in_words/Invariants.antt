use Rattle.std.proofs.Common.{◌≡◌, ◌++◌, drop}
use Rattle.nor_console.specs.LayoutWords.{in_words}
use Rattle.nor_console.specs.declared.layout_words.Place.TheVariants as place
use Rattle.nor_console.proofs.layout_words.in_words.Given as goal

abbrev pub invariant-loop-byte : goal.invariant-loop-byte
invariant-loop-byte l = (l.words.items ++ in_words l.place (drop l.byte-index l.text) ≡ in_words place.Start l.text)
