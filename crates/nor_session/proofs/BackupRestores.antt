use Rattle.std.proofs.Common.{◌≡◌, ◌<◌, ◌+◌, ◌/◌, ◌++◌, ◌∙◌, ℕ, true, List, [], ◌∷◌, Some, ap, sym, subst, arith}
use Rattle.std.specs.Prelude.{◌&&◌, not, nat_lt}
use Rattle.std.specs.Option.{is_some}
use Rattle.std.proofs.lemmas.Bool.{and_parts, and_from, lt-ltb}
use Rattle.std.proofs.lemmas.Bool.Decides.{nat_tests}
use Rattle.nor_model.specs.Chip.{Chip, IsChip, IsSame, is_locked}
use Rattle.nor_model.specs.Guard.{is_protected}
use Rattle.nor_model.specs.Bus.{BusState}
use Rattle.nor_model.proofs.Sizes.{sized_bounds}
use Rattle.nor_driver.specs.Reads.{unique_of}
use Rattle.nor_journal.specs.Text.{SavedSector, Content, IsContent, AreRising, text}
use Rattle.nor_journal.specs.Saved.{JournalSaves, saved_in, is_saved}
use Rattle.nor_journal.proofs.Saves.{Saves-set}
use Rattle.nor_journal.proofs.OneForm.{one_text}
use Rattle.nor_probe.specs.Known.{IsKnown}
use Rattle.nor_apply.specs.Within.{IsWithin}
use Rattle.nor_apply.proofs.Changing.{same_within, within_wider}
use Rattle.nor_scan.specs.Saving.{header_of}
use Rattle.nor_scan.specs.Scanning.{sectors_below}
use Rattle.nor_session.specs.Backup.{SavesWholeChip, IsBackupOf, writable_addresses}
use Rattle.nor_session.specs.Headline.{SavesChip, CanRestore, CanRestoreFrom, open_addresses}
use Rattle.nor_session.proofs.RestoresOriginal.{saves_chip}

record_below : (sectors least : ℕ) (saved : List SavedSector) (s : ℕ) → AreRising sectors least saved
    → is_some (saved_in saved s) ≡ true → s < sectors
unfolding saved_in
record_below sectors least [] s rising is = absurd cc
record_below sectors least (first ∷ rest) s rising is =
    let place = rising.0.place in let later = record_below sectors (first.number + 1) rest s rising.2 in
    grind (arith, nat_tests)

saved_below : (journal : Content) (s : ℕ) → IsContent journal → is_saved journal s ≡ true → s < journal.size / 4096
saved_below journal s is = record_below (journal.size / 4096) 0 journal.saved s is.saved

open_writable : (journal : Content) (first : Chip) (a : ℕ) → SavesChip journal first
    → open_addresses journal first a ≡ true → writable_addresses first a ≡ true
open_writable journal first a saves is =
    let parts = and_parts (is_saved journal (a / 4096)) (not (is_locked first.kept && is_protected first a)) is in
    let below = saved_below journal (a / 4096) saves.sectors.is parts.0 in
    let size = saves.kind.size in let blocks = (sized_bounds first.config).blocks in
    and_from (nat_lt a first.config.size) _ (lt-ltb a first.config.size (omega arith)) parts.1

writable_open : (backup : Content) (first : Chip) (a : ℕ) → SavesWholeChip backup first
    → writable_addresses first a ≡ true → open_addresses backup first a ≡ true
writable_open backup first a whole is =
    let parts = and_parts (nat_lt a first.config.size) (not (is_locked first.kept && is_protected first a)) is in
    let below : a < first.config.size = grind (arith, nat_tests, parts.0) in
    let blocks = (sized_bounds first.config).blocks in
    and_from (is_saved backup (a / 4096)) _ (whole.every (a / 4096) (omega arith)) parts.1

pub backup_restores_any : (backup : Content) (first : Chip) (state : BusState) → IsKnown state.further first.config
    → SavesWholeChip backup first → IsWithin (writable_addresses first) first state → CanRestore backup first state
backup_restores_any backup first state known whole within = record {
  known = known;
  saves = whole.chip;
  within = within_wider (writable_addresses first) (open_addresses backup first) first state
      (λ a. writable_open backup first a whole) within;
}

pub backup_restores_original : (journal backup : Content) (first : Chip) (state : BusState)
    → SavesWholeChip backup first → CanRestore journal first state → CanRestore backup first state
backup_restores_original journal backup first state whole can =
    backup_restores_any backup first state can.known whole
    (within_wider (open_addresses journal first) (writable_addresses first) first state
    (λ a. open_writable journal first a can.saves) can.within)

pub read_is_backup : (first : Chip) (bytes : List ℕ) (journal : Content) → IsBackupOf bytes first → IsContent journal
    → bytes ≡ text journal → SavesWholeChip journal first
read_is_backup first bytes journal backup is read =
    let kept = backup.journal in
    subst (λ (c : Content). SavesWholeChip c first)
    (one_text kept.content journal [] [] kept.is is (ap (λ (t : List ℕ). t ++ []) (sym kept.same ∙ read))).0
    backup.saves

pub is_backup : (first : Chip) (bytes : List ℕ) → IsChip first
    → JournalSaves (header_of first) first.bytes (sectors_below (first.config.size / 4096)) bytes
    → IsBackupOf bytes first
is_backup first bytes chip kept =
    let unique : Some (unique_of first.config) ≡ kept.content.unique = ap (λ (c : Content). c.unique) kept.same in
    record {
      journal = record { content = kept.content; is = kept.saves.is; same = kept.is };
      saves = record {
        chip = saves_chip first _ kept.content chip.kept2 kept.same kept.saves;
        device = sym unique;
        every = λ s below. sym (Saves-set first.bytes _ kept.content s kept.saves)
            ∙ lt-ltb s (first.config.size / 4096) below;
      };
    }

pub backup_restorable : (first : Chip) (bytes : List ℕ) (state : BusState) → IsKnown state.further first.config
    → IsBackupOf bytes first → IsSame first state.chip → state.chip.busy ≡ 0 → CanRestoreFrom bytes first state
backup_restorable first bytes state known backup same idle = record {
  journal = backup.journal;
  back = backup_restores_any backup.journal.content first state known backup.saves
      (same_within (writable_addresses first) first state same idle);
}
