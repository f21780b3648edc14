-- On lawful files, a file whose vault was borrowed and taken back has the vault's bytes. Files apart from it stay.
use Rattle.std.proofs.Common.{◌≡◌, ◌∙◌, Some, ap, refl, subst, sym, true}
use Rattle.nor_files.specs.Calls.{Borrows, TakesBack}
use Rattle.nor_files.specs.Files.{AreApart, FilesState, Found, Name, Nature, KeepsFile, is_lawful}
use Rattle.nor_journal.specs.Vault.{IsSyncedIfSealed, VaultState}
use Rattle.nor_console.specs.Stored.{IsKeptFile}

pub stays_same : (name : Name) (files : FilesState) → KeepsFile name files files
stays_same name files = record { out = refl; seen = refl; leaves = λ left can. can }

pub stays_on : {name : Name} {old mid new : FilesState} → KeepsFile name old mid → KeepsFile name mid new → KeepsFile name old new
stays_on one other = record {
  out = other.out ∙ one.out;
  seen = other.seen ∙ one.seen;
  leaves = λ left can. one.leaves left (other.leaves left can);
}

pub apart_after : {old new : Nature} {one other : Name} → new ≡ old → AreApart old one other → AreApart new one other
apart_after {one = one} {other = other} same apart = subst (λ (n : Nature). AreApart n one other) (sym same) apart

pub lawful_after : {old new : Nature} → new ≡ old → old.lawful ≡ true → new.lawful ≡ true
lawful_after same is = ap (λ (n : Nature). n.lawful) same ∙ is

module _ (name : Name) (old mid new : FilesState) (vault : VaultState)
    (made : mid.view.nature ≡ old.view.nature) (borrows : is_lawful old.view ≡ true → Borrows name old mid)
    (back : new.view.nature ≡ mid.view.nature)
    (takes : is_lawful mid.view ≡ true → (n : Name) → mid.borrowed ≡ Some n → TakesBack n vault mid new) where
  taken : is_lawful old.view ≡ true → TakesBack name vault mid new
  taken is = takes (lawful_after made is) name (borrows is).borrowed

  pub kept_file : is_lawful new.view ≡ true → IsKeptFile name vault new
  kept_file is =
      let t = taken (lawful_after (sym (back ∙ made)) is) in
      record { telling = t.telling; seen = t.seen; durable = t.durable }

  pub others_stay : is_lawful old.view ≡ true → (any : Name) → AreApart old.view.nature name any → KeepsFile any old new
  others_stay is any other = stays_on ((borrows is).others any other) ((taken is).others any (apart_after made other))

-- If the laws of a vault in a file hold (`DurableVault`), a faithful sealed vault's bytes are durable.
pub sealed_durable : {V : Type 0} (state : V → VaultState) (contents synced : V → Found)
    → ((vault : V) → (state vault).telling ≡ true → contents vault ≡ Some (state vault).bytes)
    → ((vault : V) → IsSyncedIfSealed (state vault).sealed (contents vault) (synced vault))
    → (vault : V) → (state vault).telling ≡ true → (state vault).sealed ≡ true → synced vault ≡ Some (state vault).bytes
sealed_durable state contents synced holds is_synced vault telling sealed =
    is_synced vault sealed (state vault).bytes (holds vault telling)
