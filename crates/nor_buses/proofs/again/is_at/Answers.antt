use Rattle.std.proofs.Common.{◌∙◌, arith, sym}
use Rattle.nor_buses.proofs.ReadParts.{expected_part, differs_part, range_part}
use Rattle.nor_buses.proofs.again.is_at.Goals as goal

pub returns-in-Some-clause-equal : goal.returns-in-Some-clause-equal
returns-in-Some-clause-equal c same =
    expected_part c.args.image.now c.args.address c.args.reply.now c.args.from c.args.to
    (omega (arith, c.requires.some)) c.requires.within
    (c.are_same.ensures.same same ∙ c.in-Some.ensures.lookup.0.2
    ∙ range_part c.args.image.now c.args.address c.args.from c.args.to)

pub returns-in-Some-clause-differs : goal.returns-in-Some-clause-differs
returns-in-Some-clause-differs c other =
    differs_part c.args.image.now c.args.address c.args.reply.now c.args.from c.args.to c.requires.some
    c.requires.within c.in-Some.ensures.lookup.0.1
    (λ same. c.are_same.ensures.differ other (same
    ∙ sym (range_part c.args.image.now c.args.address c.args.from c.args.to) ∙ sym c.in-Some.ensures.lookup.0.2))
