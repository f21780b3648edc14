-- A partly written journal can be continued to a journal that saves all of the chip's sectors in a given set.
use Rattle.std.proofs.Common.{◌≡◌, ℕ, zero, suc, ◌+◌, ◌*◌, ◌/◌, ◌<◌, ◌≤◌, Bool, true, false, List, [], ◌++◌, length}
use Rattle.std.proofs.Common.{map, drop, ◌-◌, refl, sym, ap, subst, ◌∙◌, arith, inl, inr}
use Rattle.std.specs.Prelude.{◌&&◌, nat_lt}
use Rattle.std.specs.Io.{StartsWith}
use Rattle.std.specs.List.{range_with_len}
use Rattle.std.proofs.lemmas.List.{append-nil, take-append-drop, length-append}
use Rattle.std.proofs.lemmas.List.FromFn.{length-map-range_with_len, get_or-map-range_with_len}
use Rattle.std.proofs.lemmas.Bool.Decides.{nat_tests}
use Rattle.std.proofs.lemmas.Bool.{cases_Bool}
use Rattle.sha2.specs.Sha256.{sha256}
use Rattle.sha2.proofs.Facts256.{length-sha256}
use Rattle.nor_journal.specs.Text.{Content, IsContent, SameHeader, next_number, end_mark, front, text, with_sector}
use Rattle.nor_journal.specs.Saved.{IsWholeSector, Saves, HasOneMore, IsJournalPrefix}
use Rattle.nor_journal.proofs.Saved.{next_number-with_sector}
use Rattle.nor_journal.proofs.Saves.{Saves-same, Saves-more}
use Rattle.nor_journal.proofs.Beginnings.{front-with_sector, text_is, begins_longer}
use Rattle.nor_journal.proofs.OneForm.{one_text}

sector_bytes : (chip : ℕ → ℕ) (sector : ℕ) → List ℕ
sector_bytes chip sector = map (λ i. chip (4096 * sector + i)) (range_with_len 0 4096)

sector_whole : (chip : ℕ → ℕ) (sector : ℕ) → IsWholeSector chip sector (sector_bytes chip sector)
unfolding sector_bytes
sector_whole chip sector = record {
  whole = length-map-range_with_len (λ i. chip (4096 * sector + i)) 0 4096;
  same = λ i below. get_or-map-range_with_len (λ i. chip (4096 * sector + i)) 0 4096 i i 0 below (omega arith);
}

pub one_more_below : (set : ℕ → Bool) (n : ℕ) → set n ≡ true
    → HasOneMore (λ s. nat_lt s n && set s) n (λ s. nat_lt s (n + 1) && set s)
one_more_below set n is = record {
  here = grind (arith, nat_tests);
  others = λ s other. grind (arith, nat_tests);
}

none_more_below : (set : ℕ → Bool) (n : ℕ) → set n ≡ false
    → (s : ℕ) → (nat_lt s (n + 1) && set s) ≡ (nat_lt s n && set s)
none_more_below set n is s = grind (arith, nat_tests)

pub record GoesOn (chip : ℕ → ℕ) (set : ℕ → Bool) (c : Content) (n : ℕ) : Type 0 where
  pub content : Content
  pub same : SameHeader c content
  pub saves : Saves chip (λ s. nat_lt s n && set s) content
  pub next : next_number content ≤ n
  pub begins : (bytes : List ℕ) → StartsWith (front c) bytes → StartsWith (front content) bytes

go_on_here : (chip : ℕ → ℕ) (set : ℕ → Bool) (c : Content) (n : ℕ) → n < c.size / 4096 → GoesOn chip set c n
    → GoesOn chip set c (n + 1)
go_on_here chip set c n below on = elim (cases_Bool (set n)) [
  | inl is ↦
      let bytes = sector_bytes chip n in
      let place : n < on.content.size / 4096 = subst (λ (d : Content). n < d.size / 4096) on.same below in
      record {
        content = with_sector on.content n bytes;
        same = on.same;
        saves = Saves-more chip _ _ on.content n bytes on.saves (record { rises = on.next; place = place })
            (sector_whole chip n) (one_more_below set n is);
        next = omega (arith, next_number-with_sector on.content n bytes);
        begins = λ part begins. rw (front-with_sector on.content n bytes)
            (begins_longer (front on.content) _ part (on.begins part begins));
      }
  | inr is ↦
      let next = on.next in
      record {
        content = on.content;
        same = on.same;
        saves = Saves-same chip _ _ on.content (none_more_below set n is) on.saves;
        next = omega arith;
        begins = on.begins;
      }
]

go_on : (chip : ℕ → ℕ) (set : ℕ → Bool) (c : Content) (n more : ℕ) → Saves chip (λ s. nat_lt s n && set s) c
    → next_number c ≤ n → n + more ≤ c.size / 4096 → GoesOn chip set c (n + more)
go_on chip set c n zero saves next within =
    let e : n ≡ n + 0 = omega arith in
    subst (GoesOn chip set c) e
    (record { content = c; same = refl; saves = saves; next = next; begins = λ bytes begins. begins })
go_on chip set c n (suc more) saves next within =
    let e : n + more + 1 ≡ n + suc more = omega arith in
    subst (GoesOn chip set c) e
    (go_on_here chip set c (n + more) (omega arith) (go_on chip set c n more saves next (omega arith)))

pub front_begins : (c : Content) (part rest bytes : List ℕ) → front c ≡ part ++ rest → StartsWith part bytes
    → StartsWith (text c) bytes
front_begins c part rest bytes is begins =
    subst (λ (whole : List ℕ). StartsWith whole bytes) (text_is c)
    (begins_longer (front c ++ end_mark) (sha256 (front c ++ end_mark)) bytes (begins_longer (front c) end_mark bytes
    (rw is (begins_longer part rest bytes begins))))

pub begins_whole : (head : Content) (chip : ℕ → ℕ) (set : ℕ → Bool) (c : Content) (n : ℕ) (bytes : List ℕ)
    → SameHeader head c → Saves chip (λ s. nat_lt s n && set s) c → next_number c ≤ n → n ≤ head.size / 4096
    → StartsWith (front c) bytes → IsJournalPrefix head chip (λ s. nat_lt s (head.size / 4096) && set s) bytes
begins_whole head chip set c n bytes same saves next within begins =
    let total = head.size / 4096 in
    let size : head.size ≡ c.size = ap (λ (d : Content). d.size) same in
    let on : GoesOn chip set c (n + (total - n)) =
    go_on chip set c n (total - n) saves next (rw (← size) (omega arith)) in
    let whole : n + (total - n) ≡ total = omega arith in
    record {
      content = on.content;
      same = same ∙ on.same;
      saves = subst (λ (m : ℕ). Saves chip (λ s. nat_lt s m && set s) on.content) whole on.saves;
      begins = front_begins on.content (front on.content) [] bytes (sym (append-nil _)) (on.begins bytes begins);
    }

pub begins_all_of_it : (head : Content) (chip : ℕ → ℕ) (saved : ℕ → Bool) (bytes : List ℕ) (journal : Content)
    → IsJournalPrefix head chip saved bytes → IsContent journal → bytes ≡ text journal
    → SameHeader head journal × Saves chip saved journal
begins_all_of_it head chip saved bytes journal begun is e =
    let rest = drop (length bytes) (text begun.content) in
    let whole : text journal ++ rest ≡ text begun.content ++ [] =
    ap (λ (t : List ℕ). t ++ rest) (sym e ∙ sym begun.begins)
    ∙ take-append-drop (length bytes) (text begun.content) ∙ sym (append-nil (text begun.content)) in
    subst (λ (c : Content). SameHeader head c × Saves chip saved c)
    (sym (one_text journal begun.content rest [] is begun.saves.is whole).0) (begun.same, begun.saves)

pub never_empty : (c : Content) → text c ≡ [] → ⊥
never_empty c none =
    let long = length-append (front c ++ end_mark) (sha256 (front c ++ end_mark)) in
    omega (arith, ap length (text_is c ∙ none), long, length-sha256 (front c ++ end_mark))
