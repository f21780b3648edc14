-- The journal that a session wrote can restore the original chip of that session.
use Rattle.std.proofs.Common.{◌≡◌, ◌<◌, ◌/◌, ◌∙◌, ℕ, Bool, true, false, List, [], ◌∷◌, ◌*◌, ap, sym, arith}
use Rattle.std.specs.Prelude.{◌&&◌, not}
use Rattle.std.proofs.lemmas.Bool.{and_parts, and_from, both_ways, false_from_ne_true}
use Rattle.nor_model.specs.Chip.{Chip, IsChip, is_locked, kept_in}
use Rattle.nor_model.proofs.Kept.{kept_same}
use Rattle.nor_model.specs.Guard.{is_protected}
use Rattle.nor_model.specs.Bus.{BusState}
use Rattle.nor_scan.proofs.Planned.{touched_inside}
use Rattle.nor_model.proofs.Sizes.{sized_bounds}
use Rattle.nor_model.proofs.ProtectedBlocks.{is_protected-sector}
use Rattle.nor_driver.specs.OnlyReads.{OnlyReads}
use Rattle.nor_request.specs.Request.{wanted}
use Rattle.nor_plan.specs.Content.{is_touched}
use Rattle.nor_journal.specs.Text.{Content, SameHeader}
use Rattle.nor_journal.specs.Vault.{VaultState}
use Rattle.nor_journal.specs.Saved.{Saves, is_saved}
use Rattle.nor_journal.proofs.Saves.{Saves-set}
use Rattle.nor_probe.specs.Known.{IsGenuine, IsModelled}
use Rattle.nor_apply.specs.Within.{addresses_of}
use Rattle.nor_apply.proofs.Changing.{within_wider}
use Rattle.nor_request.specs.declared.request.Request.{Request}
use Rattle.nor_scan.specs.Saving.{header_of}
use Rattle.nor_session.specs.Headline.{SavesChip, open_addresses, CanRestore, KeepsOriginal}
use Rattle.nor_session.specs.Session.{CanBeUndone}
use Rattle.nor_session.specs.Rehearsing.{CanUndo}
use Rattle.nor_session.proofs.JudgedAgain.{accepted_named, accepted_free}

pub saves_chip : (first : Chip) (saved : ℕ → Bool) (journal : Content) → first.kept.two < 128 → SameHeader (header_of first) journal
    → Saves first.bytes saved journal → SavesChip journal first
saves_chip first saved journal small same saves =
    let status : (4 * first.kept.one) ∷ first.kept.two ∷ [] ≡ journal.status = ap (λ (c : Content). c.status) same in
    let bits : first.kept ≡ kept_in journal.status =
    rw (← status) (kept_same first.kept (kept_in ((4 * first.kept.one) ∷ first.kept.two ∷ [])) (omega arith) (omega arith)) in
    search arith

saved_free : (saved : ℕ → Bool) (first : Chip) (text : List ℕ) (state : BusState) (a : ℕ) → CanUndo saved first text state → saved (a / 4096) ≡ true → (is_locked first.kept && is_protected first a) ≡ false
saved_free saved first text state a can_undo is = false_from_ne_true _ (λ both.
    let (locked, protected) = and_parts _ _ both in
    let inside = can_undo.inside (a / 4096) is in let blocks = (sized_bounds first.config).blocks in
    both_ways _ (is_protected-sector first a (omega arith) (rw is at (can_undo.free locked (a / 4096)))) protected)

pub can_restore_read : (saved : ℕ → Bool) (first : Chip) (text : List ℕ) (state : BusState) (journal : Content) → CanUndo saved first text state
    → SameHeader (header_of first) journal × Saves first.bytes saved journal → CanRestore journal first state
can_restore_read saved first text state journal can_undo read = record {
  known = can_undo.known;
  saves = saves_chip first saved journal can_undo.is.kept2 read.0 read.1;
  within = within_wider (addresses_of saved) (open_addresses journal first) first state
      (λ a is. and_from (is_saved journal (a / 4096)) (not (is_locked first.kept && is_protected first a))
      (sym (Saves-set first.bytes saved journal (a / 4096) read.1) ∙ is)
      (ap not (saved_free saved first text state a can_undo is)))
      can_undo.within;
}

pub restorable : (request : Request) (image : List ℕ) (old new : BusState) (vault : VaultState) → IsChip old.chip → IsGenuine old.further old.chip.config → vault.telling ≡ true
    → CanBeUndone request image old new vault → CanUndo (is_touched old.chip.bytes (wanted request image old.chip)) old.chip vault.bytes new
restorable request image old new vault is genuine telling undone = record {
  is = is;
  known = rw undone.further (record {
    genuine = genuine;
    shown = rw (accepted_named old.further request image old.chip undone.accepted).shown;
  });
  journal = undone.journal telling;
  inside = λ s touched.
      touched_inside request image old.chip.config.size old.chip.bytes s (sized_bounds old.chip.config).blocks touched;
  free = accepted_free old.further request image old.chip undone.accepted;
  within = undone.changes.within;
}

pub original_kept : (request : Request) (image : List ℕ) (most : ℕ) (old new : BusState) (vault : VaultState)
    → (old.honest ≡ true → IsChip old.chip) → (vault.sealed ≡ false → OnlyReads most old new)
    → (IsModelled old → vault.sealed ≡ true → CanBeUndone request image old new vault) → KeepsOriginal old new vault
original_kept request image most old new vault reaches only_reads undo = record {
  unsent = λ unsealed. (only_reads unsealed).sent;
  same = λ unsealed honest. ((only_reads unsealed).honest_reads honest).stays.steady_or_idle;
  restorable = λ sealed telling modelled.
      let can_undo = restorable request image old new vault (reaches modelled.honest) modelled.genuine telling
      (undo modelled sealed) in
      let kept = can_undo.journal in
      record {
        journal = record { content = kept.content; is = kept.saves.is; same = kept.is };
        back = can_restore_read _ old.chip vault.bytes new kept.content can_undo (kept.same, kept.saves);
      };
}
