use Rattle.std.proofs.Common.{◌≡◌, ◌/◌, ◌∙◌, ℕ, Option, arith, rules}
use Rattle.nor_model.specs.Bus.{BusState}
use Rattle.nor_model.specs.Chip.{IsSame}
use Rattle.nor_driver.specs.OnlyReads.{OnlyReads}
use Rattle.nor_driver.specs.ReadsInTurn.{HasOnlyRead}
use Rattle.nor_driver.proofs.ReadsInTurn.{only_reads_within, same_then}
use Rattle.nor_journal.specs.Vault.{VaultState}
use Rattle.nor_probe.specs.declared.table.ChipName.{ChipName}
use Rattle.nor_probe.specs.Known.{IsModelled}
use Rattle.nor_request.specs.declared.refusal.Refusal.{Refusal}
use Rattle.nor_request.specs.declared.refusal.Refusal.TheVariants.{Vault, Stopped}
use Rattle.nor_request.specs.Errors.{EndsAtError}
use Rattle.nor_scan.specs.declared.identity.Identity.{Identity}
use Rattle.nor_scan.specs.Identity.{ReadsIdentity, most_identity}
use Rattle.nor_scan.specs.Saving.{HasIdleChip}
use Rattle.nor_scan.specs.SavedWhole.{SaveWholeErrors}
use Rattle.nor_session.specs.Backup.{BackupReturns, BackupErrors}
use Rattle.nor_session.specs.Bounds.{most_reads}

module _ {named : Option ChipName} {identity : Identity} {old mid : BusState}
    (only_reads : OnlyReads most_identity old mid) (opens : ReadsIdentity named old mid identity) where
  pub is_shown : IsModelled old → HasIdleChip old.chip mid
  is_shown is = let rested = opens.rested is.honest in let idle = opens.idle is.honest in search rules

  pub reads_all : {new : BusState} → OnlyReads (identity.found.size / 4096) mid new → OnlyReads (most_reads 4096) old new
  reads_all more = let most = opens.part.at_most in only_reads_within (most_reads 4096) (omega arith) only_reads more

  pub same_after : {reads : ℕ} {new : BusState} → IsModelled old → HasOnlyRead reads mid new → IsSame old.chip new.chip
  same_after {new = new} is has =
      same_then old.chip mid.chip new.chip (opens.rested is.honest).unchanged.same
      (has.rested (only_reads.nature.honest ∙ is.honest)).unchanged.same

  pub idle_after : {reads : ℕ} {new : BusState} → IsModelled old → HasOnlyRead reads mid new → new.chip.busy ≡ 0
  idle_after is has =
      let idle = opens.idle is.honest in
      let busy = (has.rested (only_reads.nature.honest ∙ is.honest)).unchanged.busy in omega arith

  pub whole_errors : (new : BusState) (vault vault' : VaultState) (refusal : Refusal) → IsModelled old
      → SaveWholeErrors (identity.found.size / 4096) mid new vault vault' refusal
      → BackupErrors (most_reads (old.chip.config.size / 4096)) named old new refusal
  whole_errors new vault vault' Stopped is errors = λ punctual.
      let ran = errors.0.ran_out (only_reads.nature.honest ∙ is.honest) (only_reads.nature.punctual ∙ punctual) in
      let count = opens.count is.honest punctual in
      let most = opens.most in let size = (opens.genuine is).size in omega arith
  whole_errors new vault vault' Vault is errors = tt
  whole_errors new vault vault' _ is errors = absurd errors

pub whole_returns : (most : ℕ) (old new : BusState) (vault vault' : VaultState) (refusal : Refusal)
    → SaveWholeErrors most old new vault vault' refusal → BackupReturns vault vault' refusal
whole_returns most old new vault vault' Stopped errors = errors.1
whole_returns most old new vault vault' Vault errors = errors
whole_returns most old new vault vault' _ errors = absurd errors

pub whole_last : (most : ℕ) (old new : BusState) (vault vault' : VaultState) (refusal : Refusal)
    → SaveWholeErrors most old new vault vault' refusal → EndsAtError refusal new.history
whole_last most old new vault vault' Stopped errors = errors.0.last
whole_last most old new vault vault' Vault errors = tt
whole_last most old new vault vault' _ errors = absurd errors
