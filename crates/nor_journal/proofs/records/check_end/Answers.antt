use Rattle.std.proofs.Common.{rules, arith, sym, ap, ◌≢◌, ◌∙◌}
use Rattle.std.proofs.lemmas.List.{drop-drop, length-drop}
use Rattle.sha2.specs.Sha256.{sha256}
use Rattle.nor_journal.proofs.SectorRecords.{with_mark}
use Rattle.nor_journal.proofs.records.check_end.Goals as goal

pub returns-then-ne-clause-fault : goal.returns-then-ne-clause-fault
returns-then-ne-clause-fault c =
    let other : c.split_at.result.1.now ≢ c.as_slice.result.now = search rules in
    let body = c.split_at.ensures.front ∙ with_mark c.args.mark c.args.bytes.now c.requires.is_mark in
    let digest = drop-drop 4 c.args.mark c.args.bytes.now in (
      c.requires.is_mark,
      omega (arith, length-drop c.args.mark c.args.bytes.now),
      λ e. other (c.split_at.ensures.back ∙ sym digest ∙ e ∙ ap sha256 (sym body) ∙ sym (c.as_slice.ensures ∙ c.digest.ensures)),
    )
