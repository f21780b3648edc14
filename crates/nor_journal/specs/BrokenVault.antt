use Rattle.std.specs.Prelude.{◌≡◌, ℕ, ◌⊎◌, min, List, length, take}
use Rattle.nor_journal.specs.declared.broken.BrokenVault.{BrokenVault}
use Rattle.nor_journal.specs.declared.vault.VaultFault.{VaultFault}
use Rattle.nor_journal.specs.Vault.{VaultState, Took, PutRefused}

abbrev pub inner_vault : {V : Type 0} → BrokenVault V → V
inner_vault vault = vault.inner

abbrev pub calls_left : {V : Type 0} → BrokenVault V → ℕ
calls_left vault = vault.calls_left

-- the greatest number of bytes that `put`, if it is the call chosen to be refused, puts in the inner vault
abbrev pub kept_of : {V : Type 0} → BrokenVault V → ℕ
kept_of vault = vault.kept

-- Holds if the first `kept` bytes of `piece` (all of a shorter piece) were put in the inner vault, which accepted or
-- refused them, and if `fault.kept` is the number of bytes that the inner vault accepted.
abbrev pub Broke : ℕ → VaultState → List ℕ → VaultState → VaultFault → Type 0
Broke kept old piece new fault =
    (Took old (take kept piece) new × (fault.kept ≡ min kept (length piece)))
    ⊎ PutRefused old (take kept piece) fault.kept new
