use Rattle.std.specs.Prelude.{ℕ, true, List, Option, Some, vec_capacity}
use Rattle.nor_journal.specs.declared.mem_vault.MemVault.{MemVault}
use Rattle.nor_journal.specs.Vault.{VaultState, synced_from_seal}

abbrev pub room_of : MemVault → ℕ
room_of vault = vec_capacity vault.bytes

abbrev pub held_by : MemVault → VaultState
held_by vault =
    record { telling = true; bytes = vault.bytes.items; sealed = vault.sealed; failures = vault.failures }

abbrev pub synced_by : MemVault → Option (List ℕ)
synced_by vault = synced_from_seal vault.sealed (Some vault.bytes.items)
