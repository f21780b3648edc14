use Rattle.std.proofs.Common.{refl, inl, inr}
use Rattle.nor_buses.proofs.SameReply.{fits_again}
use Rattle.nor_buses.proofs.ReadParts.{if_ok, carries_expected, first_data_at, fits_first, fits_data, carries_whole, whole_same}
use Rattle.nor_buses.proofs.twice.ReadTwice.is_confirmed.Goals as goal

pub returns-in-Some-Some-clause-twice : goal.returns-in-Some-Some-clause-twice
returns-in-Some-Some-clause-twice g c before honest first =
    if_ok c.is_repeated_or_expected.result _ _ c.is_repeated_or_expected.ensures.repeated
    (λ same below is. inl (carries_expected c.args.self.now.expected c.in-Some-Some.image c.deref.result.now
    c.args.out.now c.args.reply.now c.in-Some-Some.address before _ _ c.in-Some-Some.is-0 c.deref.ensures.value
    c.in-Some-Some.ensures.reads c.in-Some-Some.ensures.address first honest (below is)))

pub returns-in-Some-Some-clause-no_difference : goal.returns-in-Some-Some-clause-no_difference
returns-in-Some-Some-clause-no_difference g c before honest command first =
    c.is_repeated_or_expected.ensures.same
    (fits_first c.in-Some-Some.address c.args.out.now c.args.reply.now before _ first honest)
    (first_data_at c.in-Some-Some.address c.args.out.now c.args.reply.now before _ c.in-Some-Some.ensures.reads
    c.in-Some-Some.ensures.address first)

pub returns-in_default-clause-twice : goal.returns-in_default-clause-twice
returns-in_default-clause-twice g c before honest first =
    if_ok c.is_repeated.result _ _
    (c.is_repeated.ensures.carries (fits_again _ _ _ _ _ first.nature refl honest))
    (λ same again is. inr (carries_whole c.args.out.now c.args.reply.now before _ _ same first again is))

pub returns-in_default-clause-no_difference : goal.returns-in_default-clause-no_difference
returns-in_default-clause-no_difference g c before honest command first =
    if_ok c.is_repeated.result _ _
    (c.is_repeated.ensures.differs (fits_again _ _ _ _ _ first.nature refl honest))
    (λ same other. whole_same c.args.out.now c.args.reply.now before _ _ same c.requires.reads command first other)

pub returns-in-Some-Some-clause-keeps : goal.returns-in-Some-Some-clause-keeps
returns-in-Some-Some-clause-keeps g c honest =
    c.is_repeated_or_expected.ensures.keeps
    (fits_data c.in-Some-Some.address c.args.out.now c.args.reply.now _ honest)

pub returns-in-Some-Some-clause-stopped : goal.returns-in-Some-Some-clause-stopped
returns-in-Some-Some-clause-stopped g c honest =
    c.is_repeated_or_expected.ensures.stopped
    (fits_data c.in-Some-Some.address c.args.out.now c.args.reply.now _ honest)
