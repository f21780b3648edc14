use Rattle.std.proofs.Common.{◌≡◌, ◌<◌, ◌+◌, ◌-◌, ◌*◌, ◌/◌, ◌∙◌, ◌⊎◌, ℕ, Bool, true, false, ap, refl, inl, inr}
use Rattle.std.specs.Prelude.{not, Option, Some, None, MatchOption}
use Rattle.std.specs.Option.{is_some}
use Rattle.std.proofs.lemmas.Bool.{true_from_ne_false, false_from_ne_true, and_parts, and_from, not_from_false, or_from, both_ways}
use Rattle.nor_model.proofs.ProtectedBlocks.{is_protected-same, is_protected-sector, is_protected-no_scheme}
use Rattle.nor_model.specs.Chip.{Chip, IsSame, is_locked, kept_in}
use Rattle.nor_model.specs.Guard.{code_of, is_protected, is_block_protected}
use Rattle.nor_journal.specs.Text.{Content}
use Rattle.nor_scan.specs.Saving.{IsLeastProtected, NoneProtected, SomeProtected, is_touched_protected}
use Rattle.nor_apply.specs.Within.{is_writable}
use Rattle.nor_driver.specs.StatusWrites.{fixed_of}
use Rattle.nor_apply.proofs.Kept.{writable_same}
use Rattle.nor_session.specs.PrepareRestore.{NeedsStatusWith}

pub some_held : (found : Option ℕ) (touched : ℕ → Bool) (chip : Chip) → MatchOption found (NoneProtected touched chip) (IsLeastProtected touched chip) → is_some found ≡ true → SomeProtected touched chip
some_held (Some s) touched chip held is = record { sector = s; held = held.is }
some_held None touched chip held is = absurd cc

pub some_or_none : (found : Option ℕ) (touched : ℕ → Bool) (chip : Chip) → MatchOption found (NoneProtected touched chip) (IsLeastProtected touched chip) → (is_some found ≡ true) ⊎ NoneProtected touched chip
some_or_none (Some s) touched chip held = inl refl
some_or_none None touched chip held = inr held

pub none_needed : (journal : Content) (touched : ℕ → Bool) (chip : Chip) (found : Option ℕ) → MatchOption found (NoneProtected touched chip) (IsLeastProtected touched chip) → is_some found ≡ false
    → code_of chip.kept ≡ code_of (kept_in journal.status) → ¬ NeedsStatusWith journal touched chip
none_needed journal touched chip (Some s) held is code needs = absurd cc
none_needed journal touched chip None held is code (inl differs) = differs code
none_needed journal touched chip None held is code (inr some) =
    both_ways (is_touched_protected touched chip some.sector) (held some.sector) some.held

pub held_scheme : (touched : ℕ → Bool) (chip : Chip) → SomeProtected touched chip → chip.config.scheme ≡ true
held_scheme touched chip some = true_from_ne_false chip.config.scheme (λ none.
    let s = some.sector in
    both_ways (is_block_protected chip (4096 * s) 4096)
    (or_from _ _ (is_protected-no_scheme chip (4096 * s) none) (is_protected-no_scheme chip (4096 * s + 4096 - 1) none))
    (and_parts (touched s) (is_block_protected chip (4096 * s) 4096) some.held).1)

module _ {old new : Chip} (same : IsSame old new) where
  pub free_address : (touched : ℕ → Bool) (a : ℕ) → NoneProtected touched old → touched (a / 4096) ≡ true
      → a < old.config.size → is_protected new a ≡ false
  free_address touched a none hit below =
      let free = none (a / 4096) in
      is_protected-same old new same.config same.kept a ∙ is_protected-sector old a below (rw hit at free)

  pub writable_for : old.config.scheme ≡ true → ¬ (is_locked old.kept ≡ true) → is_writable new ≡ true
  writable_for scheme unlocked =
      writable_same old new same.config (ap fixed_of same.kept)
      ∙ and_from old.config.scheme (not (is_locked old.kept)) scheme
      (not_from_false (is_locked old.kept) (false_from_ne_true (is_locked old.kept) unlocked))
