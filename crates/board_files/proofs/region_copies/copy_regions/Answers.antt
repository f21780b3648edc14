use Rattle.std.proofs.Common.{◌∙◌, arith, inl, inr, refl}
use Rattle.std.proofs.lemmas.Result.{err_from_is_err_and}
use Rattle.nor_console.proofs.Lent.{lawful_after, stays_on}
use Rattle.board_files.proofs.RegionsCopied.{all_copied, compare_fails, copied_more, part_outside, region_fails}
use Rattle.board_files.proofs.RegionsCopied.{write_fails}
use Rattle.board_files.proofs.region_copies.copy_regions.Goals as goal

pub loop-index-preserved : goal.loop-index-preserved
loop-index-preserved g c =
    let before = c.loop-index.invariant in
    record {
      nature = c.write_file.ensures.nature ∙ before.nature;
      output = λ is.
          let lawful = lawful_after before.nature is in
          stays_on (before.output is)
          (c.write_file.ensures.others lawful c.args.out.now c.in_ok-are_two_files-2.ensures.ok);
      copied = copied_more c.in_ok-bytes.bytes.items c.deref.result.now c.in-Some.part.now
          (g.R.Store.state c.loop-index.rt) (g.R.Store.state c.write_file.new.rt)
          c.args.files.now c.loop-index.index _ c.loop-index-test.true c.deref.ensures.value
          c.write_file.ensures.nature c.write_file.ensures.others c.in_ok-is_apart_from.ensures.ok
          c.in-Some.ensures c.in_ok-write_file.ensures.ok before.copied;
    }

pub returns-clause-ok : goal.returns-clause-ok
returns-clause-ok g c =
    all_copied c.args.out.now c.args.files.now c.in_ok-bytes.bytes.items c.loop-index.index
    (g.R.Store.state c.args.rt.now) (g.R.Store.state c.loop-index.rt) (omega arith)
    c.loop-index.invariant.nature c.loop-index.invariant.output c.in_ok-bytes.ensures.ok c.loop-index.invariant.copied

pub returns-in_default-clause-err : goal.returns-in_default-clause-err
returns-in_default-clause-err g c =
    rw c.read_fault.ensures (region_fails c.args.out c.args.log c.args.files.now c.in_ok-bytes.bytes.items
    c.loop-index.index _
    (g.R.Store.state c.args.rt.now).view (g.R.Store.state c.loop-index.rt).view _ c.loop-index-test.true
    c.in_ok-bytes.ensures.ok
    (inl (record {
      is = refl;
      ends = part_outside _ c.in_ok-bytes.bytes.items (rw c.deref.ensures.value at c.in_default.ensures);
    })))

pub returns-in_err-are_two_files-clause-err : goal.returns-in_err-are_two_files-clause-err
returns-in_err-are_two_files-clause-err g c =
    let p = err_from_is_err_and c.from_residual-in_err-are_two_files.result
    c.from_residual-in_err-are_two_files.ensures.1 in
    rw (p.1, p.2) (region_fails c.args.out c.args.log c.args.files.now c.in_ok-bytes.bytes.items c.loop-index.index _
    (g.R.Store.state c.args.rt.now).view (g.R.Store.state c.loop-index.rt).view _ c.loop-index-test.true
    c.in_ok-bytes.ensures.ok
    (inr (inl (rw c.loop-index.invariant.nature at c.in_err-are_two_files.ensures.err))))

pub returns-in_err-are_two_files-2-clause-err : goal.returns-in_err-are_two_files-2-clause-err
returns-in_err-are_two_files-2-clause-err g c =
    let p = err_from_is_err_and c.from_residual-in_err-are_two_files-2.result
    c.from_residual-in_err-are_two_files-2.ensures.1 in
    rw (p.1, p.2) (region_fails c.args.out c.args.log c.args.files.now c.in_ok-bytes.bytes.items c.loop-index.index _
    (g.R.Store.state c.args.rt.now).view (g.R.Store.state c.loop-index.rt).view _ c.loop-index-test.true
    c.in_ok-bytes.ensures.ok
    (inr (inr (inl (rw c.loop-index.invariant.nature at c.in_err-are_two_files-2.ensures.err)))))

pub returns-in_err-is_apart_from-clause-err : goal.returns-in_err-is_apart_from-clause-err
returns-in_err-is_apart_from-clause-err g c =
    let p = err_from_is_err_and c.from_residual-in_err-is_apart_from.result
    c.from_residual-in_err-is_apart_from.ensures.1 in
    rw (p.1, p.2) (compare_fails c.args.out c.args.log c.args.files.now c.in_ok-bytes.bytes.items c.loop-index.index _
    (g.R.Store.state c.args.rt.now).view (g.R.Store.state c.loop-index.rt).view _ c.loop-index-test.true
    c.in_ok-bytes.ensures.ok
    (rw c.loop-index.invariant.nature at c.in_err-is_apart_from.ensures.err))

pub returns-in_err-write_file-clause-err : goal.returns-in_err-write_file-clause-err
returns-in_err-write_file-clause-err g c =
    let p = err_from_is_err_and c.from_residual-in_err-write_file.result
    c.from_residual-in_err-write_file.ensures.1 in
    rw (p.1, p.2) (region_fails c.args.out c.args.log c.args.files.now c.in_ok-bytes.bytes.items c.loop-index.index _
    (g.R.Store.state c.args.rt.now).view (g.R.Store.state c.write_file.new.rt).view _ c.loop-index-test.true
    c.in_ok-bytes.ensures.ok
    (inr (inr (inr (write_fails _ _ c.in_ok-bytes.bytes.items c.deref.result.now c.in-Some.part.now _
    (g.R.Store.state c.args.rt.now).view (g.R.Store.state c.loop-index.rt).view
    (g.R.Store.state c.write_file.new.rt).view c.loop-index.invariant.nature c.deref.ensures.value
    c.in-Some.ensures c.in_err-write_file.ensures.err)))))
