use Rattle.std.proofs.Common.{◌≡◌, ℕ, ◌+◌, ◌*◌, ◌/◌, ◌<◌, ◌≤◌, ◌∙◌, ◌||◌, Bool, true, false, length, List, [], ◌∷◌, slice_index, refl, sym, ap, arith, Some}
use Rattle.std.specs.Prelude.{◌==◌}
use Rattle.std.specs.Option.{is_some}
use Rattle.std.proofs.lemmas.Bool.{ne_eqb}
use Rattle.std.proofs.lemmas.Bool.Decides.{nat_tests}
use Rattle.nor_model.proofs.Sizes.{is_chip_size-in_blocks}
use Rattle.nor_journal.specs.Text.{SavedSector, Content, IsContent, AreRising}
use Rattle.nor_journal.specs.Saved.{Saves, saved_in, is_saved, saved_byte}
use Rattle.nor_journal.proofs.Saved.{saved_few}
use Rattle.nor_journal.proofs.Saves.{Saves-set}
use Rattle.nor_geometry.specs.Below.{count_below}
use Rattle.nor_geometry.specs.Counts.{sector_count}
use Rattle.nor_geometry.proofs.Counting.{count_below-none, count_below-same}
use Rattle.nor_geometry.proofs.Verdicts.{count_below-insert}

pub sector_at : (s i : ℕ) → i < 4096 → (4096 * s + i) / 4096 ≡ s
sector_at s i below = omega arith

pub byte_at : (journal : Content) (s : ℕ) (bytes : List ℕ) (i : ℕ) → saved_in journal.saved s ≡ Some bytes → i < 4096 → slice_index bytes i ≡ saved_byte journal (4096 * s + i)
byte_at journal s bytes i is below = search (arith, sector_at)

pub is_saved-some : (journal : Content) (s : ℕ) (bytes : List ℕ) → saved_in journal.saved s ≡ Some bytes → is_saved journal s ≡ true
is_saved-some journal s bytes is = ap is_some is

pub saved_room : (journal : Content) → IsContent journal → length journal.saved ≤ 4096
saved_room journal is = search (arith, is_chip_size-in_blocks, saved_few)

abbrev has_record : List SavedSector → ℕ → Bool
has_record saved s = is_some (saved_in saved s)

not_below : (sectors least : ℕ) (saved : List SavedSector) (s : ℕ) → AreRising sectors least saved → s < least → has_record saved s ≡ false
unfolding saved_in
not_below sectors least [] s rising below = refl
not_below sectors least (first ∷ rest) s rising below =
    rw (ne_eqb first.number s (λ e. omega arith)) (not_below sectors (first.number + 1) rest s rising.2 (omega arith))

one_more : (first : SavedSector) (rest : List SavedSector) (s : ℕ) → has_record (first ∷ rest) s ≡ ((s == first.number) || has_record rest s)
unfolding saved_in
one_more first rest s = grind (arith, nat_tests)

counted : (n sectors least : ℕ) (saved : List SavedSector) → sectors ≤ n → AreRising sectors least saved → count_below n (has_record saved) ≡ length saved
unfolding saved_in
counted n sectors least [] upto rising = count_below-none n (has_record []) (λ k below. refl)
counted n sectors least (first ∷ rest) upto rising =
    let place = rising.0.place in
    let more = count_below-insert n first.number (has_record rest) (has_record (first ∷ rest)) (omega arith)
    (not_below sectors (first.number + 1) rest first.number rising.2 (omega arith)) (one_more first rest) in
    let later = counted n sectors (first.number + 1) rest upto rising.2 in
    omega arith

pub saved_count : (chip : ℕ → ℕ) (saved : ℕ → Bool) (journal : Content) → Saves chip saved journal → length journal.saved ≡ sector_count saved
saved_count chip saved journal saves =
    let most = (is_chip_size-in_blocks journal.size saves.is.size).small in
    sym (counted 4096 (journal.size / 4096) 0 journal.saved (omega arith) saves.is.saved)
    ∙ sym (count_below-same 4096 saved (has_record journal.saved) (λ s below. Saves-set chip saved journal s saves))
