-- Lemmas about the address that a timeout or mismatch names: it is in a saved sector or, for a timeout, may be 0.
use Rattle.std.proofs.Common.{ℕ, ◌≡◌, ◌≤◌, ◌/◌, ◌∙◌, true, List, arith, inl, inr}
use Rattle.nor_model.specs.Bus.{BusState}
use Rattle.nor_journal.specs.Text.{Content, IsContent, text}
use Rattle.nor_journal.specs.Saved.{is_saved}
use Rattle.nor_journal.specs.Vault.{VaultState}
use Rattle.nor_apply.specs.declared.changes.Changes.{Changes}
use Rattle.nor_apply.specs.Applying.{touched_in}
use Rattle.nor_scan.specs.declared.identity.Identity.{Identity}
use Rattle.nor_request.specs.declared.request.Request.{Request}
use Rattle.nor_request.specs.declared.refusal.Refusal.{Refusal}
use Rattle.nor_request.specs.declared.refusal.Refusal.TheVariants.{Stopped, StatusLocked, Protected, Timeout, Mismatch, Vault}
use Rattle.nor_request.specs.Refusal.{refusal_number}
use Rattle.nor_scan.specs.SavedScan.{IsJournalOf, SaveErrors}
use Rattle.nor_scan.specs.Judging.{IsIdentityRefusal}
use Rattle.nor_session.specs.Changing.{NamesTouchedSector}
use Rattle.nor_session.specs.Session.{SavesSector, NamesSector, NamesAddress}
use Rattle.nor_session.specs.Restore.{Choice}
use Rattle.nor_session.specs.PrepareRestore.{PrepareErrors}

pub save_names : (request : Request) (identity : Identity) (code : ℕ) (image : List ℕ) (old new : BusState) (refusal : Refusal)
    → SaveErrors request identity code image old new refusal → NamesSector (λ sector. ⊥) refusal
save_names request identity code image old new (Timeout address) errors = absurd errors
save_names request identity code image old new (Mismatch address) errors = absurd errors
save_names request identity code image old new _ errors = tt

pub save_number : (request : Request) (identity : Identity) (code : ℕ) (image : List ℕ) (old new : BusState) (refusal : Refusal)
    → SaveErrors request identity code image old new refusal → (9 ≤ refusal_number refusal) × (refusal_number refusal ≤ 12)
save_number request identity code image old new StatusLocked errors = (omega arith, omega arith)
save_number request identity code image old new (Protected address) errors = (omega arith, omega arith)
save_number request identity code image old new Vault errors = (omega arith, omega arith)
save_number request identity code image old new Stopped errors = (omega arith, omega arith)
save_number request identity code image old new _ errors = absurd errors

pub judged_names : (refusal : Refusal) → IsIdentityRefusal refusal → NamesSector (λ sector. ⊥) refusal
judged_names (Timeout address) is = absurd is
judged_names (Mismatch address) is = absurd is
judged_names _ is = tt

pub change_names : {IsSuch : ℕ → Type 0} (changes : Changes) (refusal : Refusal)
    → ((s : ℕ) → touched_in changes s ≡ true → IsSuch s) → NamesTouchedSector changes refusal
    → NamesSector IsSuch refusal
change_names changes (Timeout address) such (inl at) = inl at.1
change_names changes (Timeout address) such (inr touched) = inr (such (address / 4096) touched)
change_names changes (Mismatch address) such touched = such (address / 4096) touched
change_names changes _ such names = tt

pub work_names : (changes : Changes) (head : Content) (vault : VaultState) (refusal : Refusal) → vault.sealed ≡ true
    → (vault.telling ≡ true → IsJournalOf head (touched_in changes) vault.bytes)
    → NamesTouchedSector changes refusal → NamesAddress vault refusal
work_names changes head vault refusal sealed saves names = record {
  early = λ unsealed. absurd cc;
  late = λ is telling.
      let journal = saves telling in
      change_names {IsSuch = λ s. SavesSector s vault.bytes} changes refusal (λ s touched.
      (record { content = journal.content; is = journal.is; same = journal.same }, journal.saved s ∙ touched)) names;
}

pub prepare_names : (choice : Choice) (journal : Content) (most : ℕ) (old new : BusState) (refusal : Refusal) → PrepareErrors choice journal most old new refusal → NamesSector (λ sector. is_saved journal sector ≡ true) refusal
prepare_names choice journal most old new (Timeout address) errors = inl errors.0
prepare_names choice journal most old new (Mismatch address) errors = absurd (let judged = errors.judged in cc)
prepare_names choice journal most old new _ errors = tt

pub saved_names : (journal : Content) (bytes : List ℕ) (refusal : Refusal) → IsContent journal → bytes ≡ text journal → NamesSector (λ sector. is_saved journal sector ≡ true) refusal → NamesSector (λ sector. SavesSector sector bytes) refusal
saved_names journal bytes (Timeout address) is same (inl at) = inl at
saved_names journal bytes (Timeout address) is same (inr saved) = inr (record { content = journal; is = is; same = same }, saved)
saved_names journal bytes (Mismatch address) is same saved = (record { content = journal; is = is; same = same }, saved)
saved_names journal bytes _ is same names = tt
