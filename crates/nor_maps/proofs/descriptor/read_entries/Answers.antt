use Rattle.std.proofs.Common.{◌≡◌, ◌+◌, ◌≤◌, Err, arith}
use Rattle.std.proofs.lemmas.Result.{err_from_is_err_and}
use Rattle.nor_maps.specs.Records.{AsksAt}
use Rattle.nor_maps.specs.Descriptor.{with_entry}
use Rattle.nor_maps.proofs.Names.{reads_named}
use Rattle.nor_maps.proofs.Tables.{define_none, define_more, define_all, reads_fault}
use Rattle.nor_maps.proofs.descriptor.read_entries.Goals as goal

pub loop-index-init : goal.loop-index-init
loop-index-init c = rw c.new-layout.ensures (define_none (with_entry c.args.size) 4 0 c.args.table.now)

pub loop-index-preserved : goal.loop-index-preserved
loop-index-preserved c =
    let now = c.loop-index in
    let number_is : now.index ≡ now.index + 0 = omega arith in
    let more = rw c.rest_from-entry.ensures at c.in_ok-add_entry.ensures in
    define_more (with_entry c.args.size) 4 0 c.args.table.now now.index now.layout now.invariant (now.index)
    number_is c.add_entry.new.layout more

pub returns-in_err-add_entry : goal.returns-in_err-add_entry
returns-in_err-add_entry c =
    let now = c.loop-index in
    let number_is : now.index ≡ now.index + 0 = omega arith in
    let same = err_from_is_err_and c.from_residual.result c.from_residual.ensures.1 in
    let fault = c.in_err-add_entry.field-0.0 in
    let within : now.index + 1 ≤ c.args.count = omega arith in
    let adds = rw c.rest_from-entry.ensures at c.in_err-add_entry.ensures in
    let reads = reads_fault (with_entry c.args.size) 4 0 c.args.table.now now.index now.layout now.invariant now.index
    number_is c.args.count within c.add_entry.new.layout fault adds in
    rw (same.1, same.2) (record {
      reads = reads;
      named = reads_named c.args.size c.args.count c.args.table.now c.requires.few
          (AsksAt (with_entry c.args.size) 4 0 c.args.table.now) (Err fault) reads;
    })

pub returns : goal.returns
returns c =
    let now = c.loop-index in
    record {
      reads = define_all (with_entry c.args.size) 4 0 c.args.table.now now.index now.layout now.invariant c.args.count
          (omega arith);
      named = tt;
    }
