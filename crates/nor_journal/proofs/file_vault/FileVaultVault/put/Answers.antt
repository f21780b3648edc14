use Rattle.std.proofs.Common.{arith, ap, length}
use Rattle.std.proofs.KnownBytes.{Appends-trans}
use Rattle.std.proofs.Math.Seq.{take-add}
use Rattle.std.proofs.lemmas.Bool.{true≢false}
use Rattle.std.proofs.lemmas.List.{take_rest, length-drop}
use Rattle.nor_journal.proofs.file_vault.FileVaultVault.put.Goals as goal

pub loop-kept-preserved : goal.loop-kept-preserved
loop-kept-preserved g c =
    let so_far = c.loop-kept.invariant in
    record {
      within = omega (arith, c.in-Ok.ensures.bound, ap length (take_rest c.args.piece.now c.loop-kept.kept), length-drop c.loop-kept.kept c.args.piece.now);
      used = λ never. absurd (true≢false never);
      sealed = so_far.sealed;
      failures = so_far.failures;
      file = rw (take-add c.loop-kept.kept _ c.args.piece.now, ← take_rest c.args.piece.now c.loop-kept.kept)
          (Appends-trans _ _ _ _ _ so_far.file c.in-Ok.ensures.bytes);
    }
