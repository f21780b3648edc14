-- The effect of `save_whole`, which saves a whole chip in a journal.
use Rattle.std.specs.Prelude.{◌≡◌, ◌/◌, ℕ, Bool, true}
use Rattle.nor_model.specs.Chip.{Chip}
use Rattle.nor_model.specs.Bus.{BusState}
use Rattle.nor_driver.specs.OnlyReads.{HasStopped}
use Rattle.nor_journal.specs.Saved.{JournalSaves, IsJournalPrefix}
use Rattle.nor_journal.specs.Vault.{VaultState, Refused, Accepted}
use Rattle.nor_request.specs.declared.refusal.Refusal.{Refusal}
use Rattle.nor_request.specs.declared.refusal.Refusal.TheVariants.{Vault, Stopped}
use Rattle.nor_scan.specs.declared.identity.Identity.{Identity}
use Rattle.nor_scan.specs.Saving.{IsIdentityOf, HasIdleChip, header_of}
use Rattle.nor_scan.specs.Scanning.{sectors_below}

-- Holds if a faithful vault (`telling`) has a journal of every sector of the chip of a well-behaved bus, provided that
-- this chip is idle and has this identification.
abbrev pub HasWholeChip : Identity → BusState → VaultState → Type 0
HasWholeChip identity old vault = vault.telling ≡ true
    → (further : Bool) (chip : Chip) → IsIdentityOf further chip identity → HasIdleChip chip old
    → JournalSaves (header_of chip) chip.bytes (sectors_below (chip.config.size / 4096)) vault.bytes

-- Holds if a faithful vault (`telling`) has a prefix of the chip's journal, under the premises of `HasWholeChip`.
abbrev pub BeginsWholeChip : Identity → BusState → VaultState → Type 0
BeginsWholeChip identity old vault = vault.telling ≡ true
    → (further : Bool) (chip : Chip) → IsIdentityOf further chip identity → HasIdleChip chip old
    → IsJournalPrefix (header_of chip) chip.bytes (sectors_below (chip.config.size / 4096)) vault.bytes

-- Holds if `save_whole` may return this error: 12 (the bus stopped) or 11 (the vault refused a call).
abbrev pub SaveWholeErrors : (most : ℕ) → (old new : BusState) → (vault vault' : VaultState) → Refusal → Type 0
SaveWholeErrors most old new vault vault' Stopped = HasStopped most old new × Accepted vault vault'
SaveWholeErrors most old new vault vault' Vault = Refused vault vault'
SaveWholeErrors most old new vault vault' _ = ⊥
