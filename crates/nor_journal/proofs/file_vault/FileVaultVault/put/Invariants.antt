use Rattle.std.proofs.Common.{length, take, false, ◌-◌, ◌≡◌, ◌≤◌}
use Rattle.std.specs.Io.KnownBytes.{Appends}
use Rattle.nor_journal.proofs.file_vault.FileVaultVault.put.Given as goal

abbrev pub invariant-loop-kept : goal.invariant-loop-kept
invariant-loop-kept g l = record {
  within : l.kept ≤ length l.piece;
  used : l.self.used ≡ false → (l.fn.self.used ≡ false) × (l.kept ≡ 0);
  sealed : l.self.sealed ≡ l.fn.self.sealed;
  failures : l.self.failures ≡ l.fn.self.failures;
  file : Appends (g.F.VaultFile.contents l.fn.self.file) (g.F.VaultFile.contents l.self.file) (take l.kept l.piece);
}

abbrev pub decreases-loop-kept : goal.decreases-loop-kept
decreases-loop-kept g l = length l.piece - l.kept
