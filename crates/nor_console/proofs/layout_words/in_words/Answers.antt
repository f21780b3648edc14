use Rattle.std.proofs.Common.{◌∙◌, arith, sym}
use Rattle.nor_console.proofs.WordsSoFar.{words_end, words_more}
use Rattle.nor_console.proofs.layout_words.in_words.Goals as goal

pub loop-byte-preserved : goal.loop-byte-preserved
loop-byte-preserved c = rw (c.in_ok-place.ensures.0, c.in_ok-place.ensures.1)
    (words_more c.args.text.now c.loop-byte.words.items c.loop-byte.byte-index c.loop-byte.place (omega arith)
    ∙ c.loop-byte.invariant)

pub returns : goal.returns
returns c = sym (words_end c.args.text.now c.loop-byte.words.items c.loop-byte.byte-index c.loop-byte.place (omega arith))
    ∙ c.loop-byte.invariant
