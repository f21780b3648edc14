use Rattle.std.proofs.Common.{◌≡◌, ◌+◌, ◌≤◌, refl, arith}
use Rattle.std.proofs.lemmas.Result.{err_from_is_err_and}
use Rattle.nor_maps.specs.Fmap.{with_area}
use Rattle.nor_maps.proofs.Tables.{define_none, define_more, define_all, reads_fault}
use Rattle.nor_maps.proofs.fmap.read_areas.Goals as goal

pub loop-before-init : goal.loop-before-init
loop-before-init c = rw c.new-layout.ensures (define_none (with_area c.args.size) 42 1 c.args.areas.now)

pub loop-before-preserved : goal.loop-before-preserved
loop-before-preserved c =
    let now = c.loop-before in
    let number_is : now.before + 1 ≡ now.before + 1 = refl in
    let more = rw c.rest_from-area.ensures at c.in_ok-add_area.ensures in
    define_more (with_area c.args.size) 42 1 c.args.areas.now now.before now.layout now.invariant (now.before + 1)
    number_is c.add_area.new.layout more

pub returns-in_err-add_area : goal.returns-in_err-add_area
returns-in_err-add_area c =
    let now = c.loop-before in
    let number_is : now.before + 1 ≡ now.before + 1 = refl in
    let same = err_from_is_err_and c.from_residual.result c.from_residual.ensures.1 in
    let fault = c.in_err-add_area.field-0.0 in
    let within : now.before + 1 ≤ c.args.count = omega arith in
    let adds = rw c.rest_from-area.ensures at c.in_err-add_area.ensures in
    rw (same.1, same.2) (reads_fault (with_area c.args.size) 42 1 c.args.areas.now now.before now.layout
    now.invariant (now.before + 1) number_is c.args.count within c.add_area.new.layout fault adds)

pub returns : goal.returns
returns c =
    let now = c.loop-before in
    define_all (with_area c.args.size) 42 1 c.args.areas.now now.before now.layout now.invariant c.args.count
    (omega arith)
