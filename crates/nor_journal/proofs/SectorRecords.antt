use Rattle.std.proofs.Common.{◌≡◌, ℕ, ◌+◌, ◌^◌, ◌<◌, ◌≤◌, List, ◌++◌, length, get_or, take, drop, refl, arith, inl, inr}
use Rattle.std.proofs.Common.{zero, suc, ◌*◌, ◌/◌, [], ◌∷◌, sym, ap, ◌∙◌, add-one, Some}
use Rattle.std.proofs.lemmas.Bool.{cases_lt}
use Rattle.std.proofs.lemmas.List.{get_or-drop, get_or-take, get_or_past, length-take, length-take-le, length-drop}
use Rattle.std.proofs.lemmas.List.{drop-drop, append-nil, length_push}
use Rattle.std.proofs.lemmas.Nat.{le_bytes_4}
use Rattle.byteorder.specs.Numbers.{little_number-reads_back, little_from-take}
use Rattle.nor_journal.specs.Number.{number_text, number_at}
use Rattle.std.specs.Prelude.{slice_get}
use Rattle.std.specs.List.{flat_map}
use Rattle.std.proofs.Math.Seq.{take-add}
use Rattle.std.proofs.lemmas.Option.{gets}
use Rattle.std.proofs.lemmas.Grind.{common_steps, flat_map-append}
use Rattle.nor_journal.specs.Text.{SavedSector, IsSectorBelow, AreRising, least_after, record_text, records_text}
use Rattle.nor_journal.specs.Text.{next_number, end_mark}
use Rattle.nor_journal.specs.declared.head.Head.{Head}
use Rattle.nor_journal.specs.Reading.{sector_at, saved_records, content_at, HasRecords, BeginsRecord}

abbrev pub IsBytes : List ℕ → Type 0
IsBytes bytes = (i : ℕ) → get_or bytes i 0 < 256

pub IsBytes-drop : (n : ℕ) (bytes : List ℕ) → IsBytes bytes → IsBytes (drop n bytes)
IsBytes-drop n bytes fits i = rw get_or-drop (fits (n + i))

pub length-number_text : (n : ℕ) → length (number_text n) ≡ 4
unfolding number_text
length-number_text n = refl

pub number_at-number_text : (n : ℕ) (rest : List ℕ) → n < 2 ^ 32 → number_at (number_text n ++ rest) ≡ n
unfolding number_text number_at
number_at-number_text n rest fits = little_number-reads_back 4 n rest fits

pub number_at-take : (bytes : List ℕ) → number_at (take 4 bytes) ≡ number_at bytes
unfolding number_at
number_at-take bytes = little_from-take 0 4 4 bytes (omega arith)

IsBytes-take : (n : ℕ) (bytes : List ℕ) → IsBytes bytes → IsBytes (take n bytes)
IsBytes-take n bytes fits i = elim (cases_lt i n) [
  | inl below ↦ rw (get_or-take n bytes i 0 below) (fits i)
  | inr past ↦ rw (get_or_past (take n bytes) i 0 (omega (arith, length-take n bytes))) (omega arith)
]

pub number_text-number_at : (bytes : List ℕ) → IsBytes bytes → 4 ≤ length bytes → number_text (number_at bytes) ≡ take 4 bytes
unfolding number_text number_at
number_text-number_at bytes fits long =
    rw (← number_at-take bytes) (le_bytes_4 (take 4 bytes) (number_at (take 4 bytes)) (length-take-le 4 bytes long)
    (IsBytes-take 4 bytes fits) (omega arith))

pub AreRising-push : (sectors least : ℕ) (ss : List SavedSector) (s : SavedSector) → AreRising sectors least ss → IsSectorBelow sectors s → least_after least ss ≤ s.number → AreRising sectors least (ss ++ s ∷ [])
AreRising-push sectors least [] s rising is rises = (is, rises, tt)
AreRising-push sectors least (first ∷ ss) s rising is rises = (rising.0, rising.1, AreRising-push sectors (first.number + 1) ss s rising.2 is rises)

pub least_after-push : (least : ℕ) (ss : List SavedSector) (s : SavedSector) → least_after least (ss ++ s ∷ []) ≡ s.number + 1
least_after-push least [] s = refl
least_after-push least (first ∷ ss) s = least_after-push (first.number + 1) ss s

pub records_text-push : (ss : List SavedSector) (s : SavedSector) → records_text (ss ++ s ∷ []) ≡ records_text ss ++ record_text s
unfolding records_text
records_text-push ss s = flat_map-append record_text ss (s ∷ []) ∙ ap (λ (t : List ℕ). flat_map record_text ss ++ t) (append-nil (record_text s))

pub length-sectors_in : (k : ℕ) (bytes : List ℕ) → length (saved_records k bytes) ≡ k
unfolding saved_records
length-sectors_in zero bytes = refl
length-sectors_in (suc k) bytes = omega (arith, length_push (saved_records k bytes) (sector_at bytes k), length-sectors_in k bytes)

pub slice_get-sectors_in : (k : ℕ) (bytes : List ℕ) (i : ℕ) → i < k
    → slice_get (saved_records k bytes) i ≡ Some (sector_at bytes i)
unfolding saved_records
slice_get-sectors_in zero bytes i lt = absurd (omega arith)
slice_get-sectors_in (suc k) bytes i lt =
    let len = length-sectors_in k bytes in
    elim (cases_lt i k) [
      | inl below ↦ let was = slice_get-sectors_in k bytes i below in grind (arith, common_steps, gets)
      | inr at ↦ let here : i ≡ k = omega arith in rw here (grind (arith, common_steps, gets))
    ]

pub record_text-sector_at : (k : ℕ) (bytes : List ℕ) → IsBytes bytes → 4100 * k + 4100 ≤ length bytes → record_text (sector_at bytes k) ≡ take 4100 (drop (4100 * k) bytes)
unfolding record_text
record_text-sector_at k bytes fits long =
    let number : number_text (number_at (drop (4100 * k) bytes)) ≡ take 4 (drop (4100 * k) bytes) =
    number_text-number_at (drop (4100 * k) bytes) (IsBytes-drop (4100 * k) bytes fits) (omega (arith, length-drop (4100 * k) bytes)) in
    rw (number, ← drop-drop 4 (4100 * k) bytes) (sym (take-add 4 4096 (drop (4100 * k) bytes)))

pub records_text-sectors_in : (k : ℕ) (bytes : List ℕ) → IsBytes bytes → 4100 * k ≤ length bytes → records_text (saved_records k bytes) ≡ take (4100 * k) bytes
unfolding saved_records records_text
records_text-sectors_in zero bytes fits long = refl
records_text-sectors_in (suc k) bytes fits long =
    let so_far = records_text-sectors_in k bytes fits (omega arith) in
    let next = record_text-sector_at k bytes fits (omega arith) in
    let end : 4100 * suc k ≡ 4100 * k + 4100 = omega arith in
    rw (records_text-push (saved_records k bytes) (sector_at bytes k), so_far, next, end) (sym (take-add (4100 * k) 4100 bytes))

pub has_one_more : (h : Head) (bytes : List ℕ) (k : ℕ) (least : ℕ) (rest : List ℕ) (n : ℕ) → HasRecords h bytes k → rest ≡ drop (4100 * k) bytes → least ≡ next_number (content_at h k bytes)
    → BeginsRecord (h.size / 4096) least rest n → HasRecords h bytes (k + 1)
unfolding next_number saved_records
has_one_more h bytes k least rest n so_far rest-is least-is begins =
    let long : 4100 * k + 4100 ≤ length bytes = omega (arith, begins.whole, ap length rest-is, length-drop (4100 * k) bytes) in
    let number : n ≡ number_at (drop (4100 * k) bytes) = rw (← rest-is) begins.is in
    let whole : length (take 4096 (drop (4100 * k + 4) bytes)) ≡ 4096 = omega (arith, length-take 4096 (drop (4100 * k + 4) bytes), length-drop (4100 * k + 4) bytes) in
    record {
      within = omega arith;
      rising = rw (add-one k) (AreRising-push (h.size / 4096) 0 (saved_records k bytes) (sector_at bytes k) so_far.rising
          (record { place = rw (← number) begins.place; whole = whole })
          (rw (← number, ← least-is) begins.rises));
    }

pub next_number-more : (h : Head) (bytes : List ℕ) (k : ℕ) (n : ℕ) → n ≡ number_at (drop (4100 * k) bytes) → n + 1 ≡ next_number (content_at h (k + 1) bytes)
unfolding next_number saved_records
next_number-more h bytes k n e = rw (add-one k) (ap (λ (m : ℕ). m + 1) e ∙ sym (least_after-push 0 (saved_records k bytes) (sector_at bytes k)))

pub with_mark : (mark : ℕ) (bytes : List ℕ) → take 4 (drop mark bytes) ≡ end_mark → take (mark + 4) bytes ≡ take mark bytes ++ end_mark
with_mark mark bytes is_mark = rw (← is_mark) (take-add mark 4 bytes)
