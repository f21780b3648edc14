use Rattle.std.proofs.Common.{◌≡◌, false}
use Rattle.nor_journal.specs.Writer.{vault_of, vault_seen}
use Rattle.bench.proofs.journal.write.Given as goal

abbrev pub invariant-loop-number : goal.invariant-loop-number
invariant-loop-number g l =
    ((vault_of l.writer).ghost_name ≡ (vault_of l.initial.writer).ghost_name)
    × ((vault_seen g.V.Vault.state l.writer).sealed ≡ false)
