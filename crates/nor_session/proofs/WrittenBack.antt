use Rattle.std.proofs.Common.{ap, arith, ◌/◌, ◌%◌, false, ◌≡◌, ◌∙◌, ◌⊎◌, ℕ, Bool, List, [], true, refl, sym, inl, inr}
use Rattle.std.proofs.lemmas.List.{append-nil}
use Rattle.nor_model.specs.Bus.{BusState}
use Rattle.nor_model.specs.Chip.{Chip, IsChip, IsSame, KeptBits}
use Rattle.nor_driver.specs.StatusWrites.{fixed_of}
use Rattle.nor_model.proofs.Kept.{kept_same}
use Rattle.nor_request.specs.Request.{wanted}
use Rattle.nor_plan.specs.Content.{is_touched}
use Rattle.nor_journal.specs.Text.{Content, IsContent, SameHeader, text}
use Rattle.nor_journal.specs.Saved.{JournalSaves, Saves}
use Rattle.nor_journal.specs.Vault.{VaultState}
use Rattle.nor_journal.proofs.OneForm.{one_text}
use Rattle.nor_apply.specs.Within.{IsWithin, is_writable}
use Rattle.nor_apply.proofs.Changing.{idle_within}
use Rattle.nor_scan.specs.Saving.{header_of}
use Rattle.nor_request.specs.declared.request.Request.{Request}
use Rattle.nor_probe.specs.Known.{IsKnown, IsModelled}
use Rattle.nor_session.specs.Headline.{SavesChip, CanRestore, open_addresses}
use Rattle.nor_session.specs.Session.{CanBeUndone}
use Rattle.nor_session.specs.WrittenOver.{IsWrittenOver}
use Rattle.nor_session.proofs.RestoresOriginal.{can_restore_read, restorable}

pub either : (P : ℕ → Type 0) (x y z : ℕ) → (z ≡ x) ⊎ (z ≡ y) → P x → P y → P z
either P x y z (inl is) one two = rw is one
either P x y z (inr is) one two = rw is two

kept_over : {old new opened : Chip} (first : KeptBits) → IsWrittenOver old new opened → old.kept ≡ first
    → new.kept ≡ first → opened.kept ≡ first
kept_over {old} {new} {opened} first over before after =
    kept_same opened.kept first
    (either (λ n. n ≡ first.one) _ _ _ over.one (ap (λ (bits : KeptBits). bits.one) before)
    (ap (λ (bits : KeptBits). bits.one) after))
    (either (λ n. n ≡ first.two) _ _ _ over.two (ap (λ (bits : KeptBits). bits.two) before)
    (ap (λ (bits : KeptBits). bits.two) after))

fixed_over : {old new opened : Chip} (first : KeptBits) → IsWrittenOver old new opened
    → fixed_of old.kept ≡ fixed_of first → fixed_of new.kept ≡ fixed_of first → fixed_of opened.kept ≡ fixed_of first
fixed_over {old} {new} {opened} first over before after =
    let one = either (λ n. n / 32 ≡ first.one / 32) old.kept.one new.kept.one opened.kept.one over.one
    (ap (λ (f : ℕ × ℕ). f.0) before) (ap (λ (f : ℕ × ℕ). f.0) after) in
    let two = either (λ n. n % 64 ≡ first.two % 64) old.kept.two new.kept.two opened.kept.two over.two
    (ap (λ (f : ℕ × ℕ). f.1) before) (ap (λ (f : ℕ × ℕ). f.1) after) in
    rw (one, two) refl

pub within_both : (addresses : ℕ → Bool) (first : Chip) (old new opened : BusState) → IsWrittenOver old.chip new.chip opened.chip
    → IsWithin addresses first old → IsWithin addresses first new → IsWithin addresses first opened
within_both addresses first old new opened over before after =
    let fixed = fixed_over first.kept over before.fixed after.fixed in
    let kept = λ (shut : is_writable first ≡ false). kept_over first.kept over (before.kept shut) (after.kept shut) in
    search (arith, either)

pub known_kept : {old new : Bool} (first : Chip) → new ≡ old → IsKnown old first.config → IsKnown new first.config
known_kept first kept known = rw kept known

pub restore_over : (journal : Content) (first : Chip) (old new opened : BusState) → CanRestore journal first old
    → CanRestore journal first new → IsWrittenOver old.chip new.chip opened.chip → opened.further ≡ new.further → CanRestore journal first opened
restore_over journal first old new opened before after over kept =
    let known = known_kept first kept after.known in search (arith, within_both)

pub same_over : (old new opened : Chip) → IsSame old new → IsWrittenOver old new opened → IsSame old opened
same_over old new opened same over = let kept = kept_over old.kept over refl same.kept in search (arith, either)

pub read_kept : (head : Content) (bytes : ℕ → ℕ) (saved : ℕ → Bool) (journal : Content) (kept : List ℕ) → JournalSaves head bytes saved kept
    → IsContent journal → kept ≡ text journal → SameHeader head journal × Saves bytes saved journal
read_kept head bytes saved journal kept saves is read =
    let same : saves.content ≡ journal =
    (one_text saves.content journal [] [] saves.saves.is is
    (append-nil (text saves.content) ∙ sym saves.is ∙ read ∙ sym (append-nil (text journal)))).0 in
    (rw (← same) saves.same, rw (← same) saves.saves)

pub read_back : (request : Request) (image : List ℕ) (old new : BusState) (vault : VaultState) (journal : Content)
    → IsModelled old → IsChip old.chip → vault.telling ≡ true → CanBeUndone request image old new vault
    → IsContent journal → vault.bytes ≡ text journal → CanRestore journal old.chip new
read_back request image old new vault journal modelled is telling undone sound read =
    can_restore_read (is_touched old.chip.bytes (wanted request image old.chip)) old.chip vault.bytes new journal
    (restorable request image old new vault is modelled.genuine telling undone)
    (read_kept (header_of old.chip) old.chip.bytes _ journal vault.bytes (undone.journal telling) sound read)

abbrev idle : BusState → BusState
idle state = record state { chip = record state.chip { busy = 0 } }

pub session_over_within : (request : Request) (image : List ℕ) (old new opened : BusState) (vault : VaultState) (journal : Content)
    → IsModelled old → IsChip old.chip → vault.telling ≡ true → CanBeUndone request image old new vault
    → IsContent journal → vault.bytes ≡ text journal → IsWrittenOver old.chip new.chip opened.chip
    → SavesChip journal old.chip × IsWithin (open_addresses journal old.chip) old.chip opened
session_over_within request image old new opened vault journal modelled is telling undone sound read over =
    let after = read_back request image old new vault journal modelled is telling undone sound read in (
      after.saves,
      within_both (open_addresses journal old.chip) old.chip (idle old) new opened (assumption over)
          (idle_within refl (λ a out. refl) refl refl) after.within,
    )

pub session_over : (request : Request) (image : List ℕ) (old new opened : BusState) (vault : VaultState) (journal : Content)
    → IsModelled old → IsChip old.chip → vault.telling ≡ true → CanBeUndone request image old new vault
    → IsContent journal → vault.bytes ≡ text journal → IsWrittenOver old.chip new.chip opened.chip
    → opened.further ≡ old.further → CanRestore journal old.chip opened
session_over request image old new opened vault journal modelled is telling undone sound read over kept =
    let after = read_back request image old new vault journal modelled is telling undone sound read in
    let both = session_over_within request image old new opened vault journal modelled is telling undone sound read over in
    record {
      known = known_kept old.chip (kept ∙ sym undone.further) after.known;
      saves = both.0;
      within = both.1;
    }
