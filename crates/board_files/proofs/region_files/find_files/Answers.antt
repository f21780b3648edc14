use Rattle.std.proofs.Common.{◌∙◌, ◌∷◌, [], sym}
use Rattle.std.proofs.lemmas.List.Elements.{All-push}
use Rattle.board_files.specs.Regions.{AreRangesIn}
use Rattle.board_files.proofs.RegionNames.{pairs_pushed, pairs_skipped, pushed}
use Rattle.board_files.proofs.region_files.find_files.Goals as goal
use Rattle.board_files.proofs.region_files.find_files.Goals.{in-Some+in_ok-span+else-is_err, in_default}

pub loop-entry-preserved : goal.loop-entry-preserved
loop-entry-preserved c =
    let before = c.loop-entry.invariant.entries in
    elim c.match-pair_in.branch [
      | in-Some+in_ok-span+else-is_err w ↦
          let all = pushed w.push.result _ _ _ w.push.ensures.items
          (sym w.is_err.ensures.value ∙ w.if-is_err.false) in
          let pair = rw w.in-Some.is at c.pair_in.ensures in
          record {
            entries = rw (w.files-is, all) (pairs_pushed _ _ _ _ _ c.loop-entry-test.true before pair);
            spans = rw (w.files-is, all) (All-push
                (λ region. AreRangesIn c.args.layout.now region.name.now (region.span ∷ []))
                _ _ c.loop-entry.invariant.spans w.in_ok-span.ensures.ok);
          }
      | in_default w ↦
          let pair = rw w.in_default.is at c.pair_in.ensures in
          record {
            entries = rw w.files-is (pairs_skipped _ _ _ _ c.loop-entry-test.true before pair);
            spans = rw w.files-is c.loop-entry.invariant.spans;
          }
    ]
