use Rattle.std.proofs.Common.{◌≡◌, ◌≤◌, ◌<◌, ◌+◌, ◌*◌, ◌/◌, ◌∙◌, ℕ, Bool, true, false, true≢false, inl, inr, List, Option, None, Some, refl, sym, arith}
use Rattle.std.proofs.lemmas.Bool.{cases_eq}
use Rattle.std.specs.Option.{IsSomeAnd}
use Rattle.nor_journal.specs.declared.writer.Writer.{Writer}
use Rattle.nor_journal.specs.Text.{Content}
use Rattle.nor_journal.specs.Vault.{VaultState, Accepted}
use Rattle.nor_journal.specs.Saved.{HasOneMore, IsWholeSector, saved_in}
use Rattle.nor_journal.specs.Writer.{vault_of, vault_seen, HasPutSectors}
use Rattle.nor_journal.proofs.Saves.{Saves-same}
use Rattle.nor_model.specs.Bus.{BusState}
use Rattle.nor_driver.specs.OnlyReads.{IsOpen}
use Rattle.nor_plan.specs.SectorSet.{none}

whole_alike : (one other : ℕ → ℕ) (s : ℕ) (bytes : Option (List ℕ))
    → ((i : ℕ) → i < 4096 → other (4096 * s + i) ≡ one (4096 * s + i)) → IsSomeAnd bytes (IsWholeSector one s)
    → IsSomeAnd bytes (IsWholeSector other s)
whole_alike one other s None same whole = whole
whole_alike one other s (Some b) same whole = record {
  whole = whole.whole;
  same = λ i below. whole.same i below ∙ sym (same i below);
}

pub put_alike : {V : Type 0} {state : V → VaultState} {writer : Writer V} {head : Content} {one other : ℕ → ℕ}
    {saved more : ℕ → Bool} {n m : ℕ}
    → ((s i : ℕ) → saved s ≡ true → i < 4096 → other (4096 * s + i) ≡ one (4096 * s + i))
    → ((s : ℕ) → more s ≡ saved s) → n ≤ m → HasPutSectors state writer head one saved n
    → HasPutSectors state writer head other more m
put_alike {one = one} {other = other} {saved = saved} {more = more} same equal above put = record {
  content = put.content;
  written = put.written;
  same = put.same;
  saves = Saves-same other saved more put.content equal (record {
    is = put.saves.is;
    sectors = λ s is. whole_alike one other s (saved_in put.content.saved s) (λ i. same s i is) (put.saves.sectors s is);
    others = put.saves.others;
  });
  next = let next = put.next in omega arith;
}

pub record HasJournalled {V : Type 0} (state : V → VaultState) (old new : Writer V) (size : ℕ) (bus : BusState)
    (read : ℕ → ℕ) (saved : ℕ → Bool) (n : ℕ) : Type 0 where
  pub same_vault : (vault_of new).ghost_name ≡ (vault_of old).ghost_name
  pub accepted : Accepted (vault_seen state old) (vault_seen state new)
  pub shown : IsOpen size bus → (s i : ℕ) → saved s ≡ true → i < 4096
      → bus.chip.bytes (4096 * s + i) ≡ read (4096 * s + i)
  pub put : (head : Content) → head.size ≡ size → HasPutSectors state old head read none 0
      → HasPutSectors state new head read saved n

pub journalled_none : {V : Type 0} {state : V → VaultState} {writer : Writer V} {size : ℕ} {bus : BusState}
    {read : ℕ → ℕ} {saved : ℕ → Bool} → ((s : ℕ) → saved s ≡ false)
    → HasJournalled state writer writer size bus read saved 0
journalled_none blank = record {
  same_vault = refl;
  accepted = record { telling = refl; sealed = refl; failures = refl };
  shown = λ known s i is. absurd (true≢false (sym is ∙ blank s));
  put = λ head sized put. put_alike (λ s i is below. refl) blank (omega arith) put;
}

module _ {V : Type 0} {state : V → VaultState} {old new : Writer V} {size n : ℕ} {bus : BusState} {read : ℕ → ℕ}
    {saved : ℕ → Bool} (was : HasJournalled state old new size bus read saved n) where
  pub replied_on : {head : Content} {other : ℕ → ℕ} {m : ℕ} → n ≤ m → head.size ≡ size
      → HasPutSectors state old head other none 0 → HasPutSectors state new head read saved m
  replied_on {head = head} above sized put =
      put_alike (λ s i is below. refl) (λ s. refl) above
      (was.put head sized (put_alike (λ s i is. absurd (true≢false (sym is))) (λ s. refl) (omega arith) put))

  pub kept_on : {head : Content} {other : ℕ → ℕ} {m : ℕ} → n ≤ m → IsOpen size bus → head.size ≡ size
      → HasPutSectors state old head other none 0 → HasPutSectors state new head bus.chip.bytes saved m
  kept_on above known sized put =
      put_alike (was.shown known) (λ s. refl) (omega arith) (replied_on above sized put)

  pub journalled_later : {m : ℕ} {other : ℕ → Bool} {reread : ℕ → ℕ} → n ≤ m → ((s : ℕ) → other s ≡ saved s)
      → ((s i : ℕ) → saved s ≡ true → i < 4096 → reread (4096 * s + i) ≡ read (4096 * s + i))
      → HasJournalled state old new size bus reread other m
  journalled_later above equal same = record {
    same_vault = was.same_vault;
    accepted = was.accepted;
    shown = λ known s i is below.
        let saved = sym (equal s) ∙ is in was.shown known s i saved below ∙ sym (same s i saved below);
    put = λ head sized put. put_alike same equal above (replied_on (omega arith) sized put);
  }

  pub journalled_more : {last : Writer V} {more : ℕ → Bool} {bytes : List ℕ} → n < size / 4096
      → (vault_of last).ghost_name ≡ (vault_of new).ghost_name
      → Accepted (vault_seen state new) (vault_seen state last)
      → ((head : Content) (chip : ℕ → ℕ) (saved more : ℕ → Bool) (k : ℕ)
      → HasPutSectors state new head chip saved k → k ≤ n → n < head.size / 4096 → IsWholeSector chip n bytes
      → HasOneMore saved n more → HasPutSectors state last head chip more (n + 1))
      → HasOneMore saved n more → (IsOpen size bus → IsWholeSector bus.chip.bytes n bytes)
      → IsWholeSector read n bytes → HasJournalled state old last size bus read more (n + 1)
  journalled_more {more = more} below same took adds one whole replied = record {
    same_vault = same ∙ was.same_vault;
    accepted = record { telling = cc; sealed = cc; failures = cc };
    shown = λ known s i is small. elim (cases_eq s n) [
      | inl here ↦ rw here (sym ((whole known).same i small) ∙ replied.same i small)
      | inr other ↦ was.shown known s i (sym (one.others s other) ∙ is) small
    ];
    put = λ head sized put.
        adds head read saved more n (was.put head sized put) (omega arith) (rw sized below) replied one;
  }
