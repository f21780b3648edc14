use Rattle.std.proofs.Common.{◌≡◌, ℕ, ◌+◌, ◌*◌, ◌/◌, ◌%◌, ◌<◌, ◌≤◌, Bool, true, false, List, [], refl, sym, subst, ◌∙◌}
use Rattle.std.proofs.Common.{arith, Option}
use Rattle.std.specs.Prelude.{Result, Ok, Err, IsOkAnd}
use Rattle.std.proofs.lemmas.Bool.Decides.{nat_tests}
use Rattle.nor_journal.specs.declared.writer.Writer.{Writer}
use Rattle.nor_journal.specs.Vault.{VaultState}
use Rattle.nor_journal.specs.Text.{Content, IsContent, SameHeader, MayFollow, empty_content, with_sector}
use Rattle.nor_journal.specs.Saved.{IsWholeSector, Saves, HasOneMore, JournalSaves, is_saved, saved_byte}
use Rattle.nor_journal.specs.declared.fault.JournalFault.{JournalFault}
use Rattle.nor_journal.specs.Writer.{HasWritten, HasPutSectors}
use Rattle.nor_journal.proofs.Saved.{saved_in-with_sector, saved_in-nil, next_number-empty_content}
use Rattle.nor_journal.proofs.Saved.{next_number-with_sector}
use Rattle.std.proofs.lemmas.Bool.{both_ways}
use Rattle.nor_journal.proofs.Beginnings.{IsContent-with_sector}

pub Saves-same : (chip : ℕ → ℕ) (saved other : ℕ → Bool) (c : Content) → ((s : ℕ) → other s ≡ saved s) → Saves chip saved c → Saves chip other c
Saves-same chip saved other c same saves = record {
  is = saves.is;
  sectors = λ s is. saves.sectors s (sym (same s) ∙ is);
  others = λ s is. saves.others s (sym (same s) ∙ is);
}

pub Saves-more : (chip : ℕ → ℕ) (saved more : ℕ → Bool) (c : Content) (number : ℕ) (bytes : List ℕ) → Saves chip saved c → MayFollow c number → IsWholeSector chip number bytes → HasOneMore saved number more → Saves chip more (with_sector c number bytes)
Saves-more chip saved more c number bytes saves follows sector one = record {
  is = IsContent-with_sector c number bytes saves.is follows sector.whole;
  sectors = λ s is. rw (saved_in-with_sector c number bytes s saves.is follows)
      (grind (arith, nat_tests, sector, one.others s, saves.sectors s));
  others = λ s is. rw (saved_in-with_sector c number bytes s saves.is follows)
      (grind (arith, nat_tests, one.here, one.others s, saves.others s));
}

pub Saves-set : (chip : ℕ → ℕ) (saved : ℕ → Bool) (c : Content) (s : ℕ) → Saves chip saved c → saved s ≡ is_saved c s
Saves-set chip saved c s saves = grind (arith, saves.sectors s, saves.others s)

pub saved_byte-is : (chip : ℕ → ℕ) (saved : ℕ → Bool) (c : Content) (a : ℕ) → Saves chip saved c → saved (a / 4096) ≡ true → saved_byte c a ≡ chip a
saved_byte-is chip saved c a saves is =
    let place : 4096 * (a / 4096) + a % 4096 ≡ a = omega arith in
    grind (arith, saves.sectors (a / 4096) is)

pub Saves-none : (chip : ℕ → ℕ) (saved : ℕ → Bool) (c : Content) → IsContent c → c.saved ≡ [] → ((s : ℕ) → saved s ≡ false) → Saves chip saved c
Saves-none chip saved c is empty none = record {
  is = is;
  sectors = λ s in_set. absurd (both_ways _ (none s) in_set);
  others = λ s out. rw empty (saved_in-nil s);
}

pub reads_kept : (bytes : List ℕ) (r : Result Content JournalFault) (head : Content) (chip : ℕ → ℕ) (saved : ℕ → Bool) (kept : JournalSaves head chip saved bytes) → IsOkAnd r (λ journal. journal ≡ kept.content)
    → IsOkAnd r (λ journal. SameHeader head journal × Saves chip saved journal)
reads_kept bytes (Ok journal) head chip saved kept is = rw is (kept.same, kept.saves)
reads_kept bytes (Err fault) head chip saved kept never = absurd never

pub HasKept-none : {V : Type 0} (state : V → VaultState) (w : Writer V) (id : List ℕ) (unique : Option (List ℕ)) (status : List ℕ) (size : ℕ) (chip : ℕ → ℕ) (saved : ℕ → Bool) (n : ℕ)
    → HasWritten state w (empty_content id unique status size) → ((s : ℕ) → saved s ≡ false) → HasPutSectors state w (empty_content id unique status size) chip saved n
HasKept-none state w id unique status size chip saved n written none = record {
  content = empty_content id unique status size;
  written = written;
  same = refl;
  saves = Saves-none chip saved _ written.is refl none;
  next = omega (arith, next_number-empty_content id unique status size);
}

pub may_follow : {V : Type 0} (state : V → VaultState) (w : Writer V) (head : Content) (chip : ℕ → ℕ) (saved : ℕ → Bool) (n number : ℕ) (kept : HasPutSectors state w head chip saved n) → n ≤ number → number < head.size / 4096 → MayFollow kept.content number
may_follow state w head chip saved n number kept above place = record {
  rises = omega (arith, kept.next);
  place = subst (λ (c : Content). number < c.size / 4096) kept.same place;
}

pub HasKept-more : {V : Type 0} (state : V → VaultState) (old new : Writer V) (head : Content) (chip : ℕ → ℕ) (saved more : ℕ → Bool) (n number : ℕ) (bytes : List ℕ) (kept : HasPutSectors state old head chip saved n)
    → MayFollow kept.content number → IsWholeSector chip number bytes → HasOneMore saved number more → HasWritten state new (with_sector kept.content number bytes) → HasPutSectors state new head chip more (number + 1)
HasKept-more state old new head chip saved more n number bytes kept follows sector one written = record {
  content = with_sector kept.content number bytes;
  written = written;
  same = kept.same;
  saves = Saves-more chip saved more kept.content number bytes kept.saves follows sector one;
  next = omega (arith, next_number-with_sector kept.content number bytes);
}
