use Rattle.std.proofs.Common.{add-one, ◌≡◌, ℕ, zero, suc, ◌+◌, ◌/◌, ◌<◌, ◌≤◌, cond, eqb, List, [], ◌∷◌, ◌++◌, length}
use Rattle.std.proofs.Common.{take, refl, sym, ap, ◌∙◌, arith, Option, Some, None, inl, inr}
use Rattle.std.specs.Prelude.{◌↔◌, slice_get}
use Rattle.std.proofs.lemmas.Bool.{eq-eqb, ne_eqb}
use Rattle.std.proofs.lemmas.Bool.Decides.{eqb_tells, nat_tests}
use Rattle.std.proofs.Math.Seq.{take-suc}
use Rattle.std.proofs.lemmas.List.{take_all}
use Rattle.std.proofs.lemmas.Option.{same_Some, slice_get_within, get_or_from_slice_get}
use Rattle.nor_journal.specs.Text.{SavedSector, Content, IsContent, IsSectorBelow, AreRising, MayFollow, least_after}
use Rattle.nor_journal.specs.Text.{next_number, empty_content, with_sector}
use Rattle.nor_journal.specs.Saved.{HasRecord, saved_in}
use Rattle.nor_journal.specs.declared.head.Head.{Head}
use Rattle.nor_journal.specs.Reading.{sector_at, saved_records, content_at, HasRecords}
use Rattle.nor_journal.proofs.SectorRecords.{least_after-push, length-sectors_in, slice_get-sectors_in}

pub next_number-empty_content : (id : List ℕ) (unique : Option (List ℕ)) (status : List ℕ) (size : ℕ) → next_number (empty_content id unique status size) ≡ 0
unfolding next_number
next_number-empty_content id unique status size = refl

pub next_number-with_sector : (c : Content) (number : ℕ) (bytes : List ℕ) → next_number (with_sector c number bytes) ≡ number + 1
unfolding next_number
next_number-with_sector c number bytes = least_after-push 0 c.saved (record { number = number; bytes = bytes })

pub saved_in-empty_content : (id : List ℕ) (unique : Option (List ℕ)) (status : List ℕ) (size number : ℕ) → saved_in (empty_content id unique status size).saved number ≡ None
unfolding saved_in
saved_in-empty_content id unique status size number = refl

least_le : (sectors least : ℕ) (ss : List SavedSector) → AreRising sectors least ss → least ≤ least_after least ss
least_le sectors least [] rising = omega arith
least_le sectors least (s ∷ ss) rising = omega (arith, rising.1, least_le sectors (s.number + 1) ss rising.2)

pub saved_in-push : (sectors least : ℕ) (ss : List SavedSector) (s : SavedSector) (n : ℕ) → AreRising sectors least ss → least_after least ss ≤ s.number
    → saved_in (ss ++ s ∷ []) n ≡ cond (eqb s.number n) (Some s.bytes) (saved_in ss n)
unfolding saved_in
saved_in-push sectors least [] s n rising above = refl
saved_in-push sectors least (t ∷ ss) s n rising above =
    let later = saved_in-push sectors (t.number + 1) ss s n rising.2 above in
    grind (arith, nat_tests, least_le sectors (t.number + 1) ss rising.2)

pub rising_at : (sectors least : ℕ) (ss : List SavedSector) (i : ℕ) (s : SavedSector) → AreRising sectors least ss → slice_get ss i ≡ Some s → IsSectorBelow sectors s × (least ≤ s.number)
rising_at sectors least [] i s rising e = absurd cc
rising_at sectors least (t ∷ ss) zero s rising e = rw (← same_Some t s e) (rising.0, rising.1)
rising_at sectors least (t ∷ ss) (suc i) s rising e =
    let later = rising_at sectors (t.number + 1) ss i s rising.2 e in
    (later.0, omega (arith, rising.1, later.1))

pub saved_in-at : (sectors least : ℕ) (ss : List SavedSector) (i : ℕ) (s : SavedSector) → AreRising sectors least ss → slice_get ss i ≡ Some s → saved_in ss s.number ≡ Some s.bytes
unfolding saved_in
saved_in-at sectors least [] i s rising e = absurd cc
saved_in-at sectors least (t ∷ ss) zero s rising e = rw (← same_Some t s e, eq-eqb t.number t.number refl) refl
saved_in-at sectors least (t ∷ ss) (suc i) s rising e =
    let later = rising_at sectors (t.number + 1) ss i s rising.2 e in
    rw (ne_eqb t.number s.number (λ same. omega arith)) (saved_in-at sectors (t.number + 1) ss i s rising.2 e)

pub saved_in-record : (ss : List SavedSector) (n : ℕ) (bytes : List ℕ) → saved_in ss n ≡ Some bytes → (i : ℕ) × (slice_get ss i ≡ Some (record { number = n; bytes = bytes }))
unfolding saved_in
saved_in-record [] n bytes e = absurd cc
saved_in-record (s ∷ rest) n bytes e =
    elim (eqb_tells s.number n) [
      | inl hit ↦ (0, rw (← hit.1, ← same_Some s.bytes bytes (rw hit.0 at e)) refl)
      | inr miss ↦ let later = saved_in-record rest n bytes (rw miss.0 at e) in (suc later.0, later.1)
    ]

pub saved_record : (c : Content) (sector : ℕ) (bytes : List ℕ) → IsContent c → saved_in c.saved sector ≡ Some bytes ↔ HasRecord c sector bytes
saved_record c sector bytes is = (
  λ e. let found = saved_in-record c.saved sector bytes e in record { place = found.0; is = found.1 },
  λ has. saved_in-at (c.size / 4096) 0 c.saved has.place _ is.saved has.is,
)

pub saved_in-with_sector : (c : Content) (number : ℕ) (bytes : List ℕ) (n : ℕ) → IsContent c → MayFollow c number → saved_in (with_sector c number bytes).saved n ≡ cond (eqb number n) (Some bytes) (saved_in c.saved n)
unfolding next_number
saved_in-with_sector c number bytes n is follows = saved_in-push (c.size / 4096) 0 c.saved (record { number = number; bytes = bytes }) n is.saved follows.rises

take-sector : (ss : List SavedSector) (i : ℕ) (s : SavedSector) → slice_get ss i ≡ Some s → take (i + 1) ss ≡ take i ss ++ s ∷ []
take-sector ss i s e =
    rw add-one (take-suc ss i s (slice_get_within ss i s e))
    ∙ ap (λ (u : SavedSector). take i ss ++ u ∷ []) (get_or_from_slice_get ss i s s e)

take-rising : (sectors least : ℕ) (ss : List SavedSector) (i : ℕ) (s : SavedSector) → AreRising sectors least ss → slice_get ss i ≡ Some s → AreRising sectors least (take i ss) × (least_after least (take i ss) ≤ s.number)
take-rising sectors least [] i s rising e = absurd cc
take-rising sectors least (t ∷ ss) zero s rising e = (tt, (rising_at sectors least (t ∷ ss) zero s rising e).1)
take-rising sectors least (t ∷ ss) (suc i) s rising e =
    let later = take-rising sectors (t.number + 1) ss i s rising.2 e in
    ((rising.0, rising.1, later.0), later.1)

pub saved_in-take_more : (c : Content) (i : ℕ) (s : SavedSector) (n : ℕ) → IsContent c → slice_get c.saved i ≡ Some s → saved_in (take (i + 1) c.saved) n ≡ cond (eqb s.number n) (Some s.bytes) (saved_in (take i c.saved) n)
saved_in-take_more c i s n is e =
    let parts = take-rising (c.size / 4096) 0 c.saved i s is.saved e in
    rw (take-sector c.saved i s e) (saved_in-push (c.size / 4096) 0 (take i c.saved) s n parts.0 parts.1)

pub take-next : (c : Content) (i : ℕ) (s : SavedSector) → IsContent c → slice_get c.saved i ≡ Some s → (least_after 0 (take i c.saved) ≤ s.number) × (least_after 0 (take (i + 1) c.saved) ≡ s.number + 1)
take-next c i s is e = (
  (take-rising (c.size / 4096) 0 c.saved i s is.saved e).1,
  rw (take-sector c.saved i s e) (least_after-push 0 (take i c.saved) s),
)

after_within : (sectors least : ℕ) (ss : List SavedSector) → AreRising sectors least ss → least ≤ sectors → (least_after least ss ≤ sectors) × (least + length ss ≤ sectors)
after_within sectors least [] rising within = (within, omega arith)
after_within sectors least (s ∷ ss) rising within =
    let place = rising.0.place in
    let later = after_within sectors (s.number + 1) ss rising.2 (omega arith) in
    (later.0, omega (arith, later.1, rising.1))

pub least_within : (c : Content) → IsContent c → least_after 0 c.saved ≤ c.size / 4096
least_within c is = (after_within (c.size / 4096) 0 c.saved is.saved (omega arith)).0

pub saved_few : (c : Content) → IsContent c → length c.saved ≤ c.size / 4096
saved_few c is = omega (arith, (after_within (c.size / 4096) 0 c.saved is.saved (omega arith)).1)

pub take-all_sectors : (ss : List SavedSector) → take (length ss) ss ≡ ss
take-all_sectors ss = take_all (length ss) ss (omega arith)

pub saved_in-nil : (n : ℕ) → saved_in [] n ≡ None
unfolding saved_in
saved_in-nil n = refl

pub sector_saved : (h : Head) (bytes : List ℕ) (k i : ℕ) (s : SavedSector) (j : Content) → content_at h k bytes ≡ j
    → HasRecords h bytes k → i < length j.saved → s ≡ sector_at bytes i
    → (slice_get j.saved i ≡ Some s) × (saved_in j.saved s.number ≡ Some s.bytes) × IsSectorBelow (j.size / 4096) s
sector_saved h bytes k i s j view has within is =
    let below : i < k = omega (arith, ap (λ (c : Content). length c.saved) view, length-sectors_in k bytes) in
    let at : slice_get (saved_records k bytes) i ≡ Some s = slice_get-sectors_in k bytes i below ∙ ap Some (sym is) in
    rw (← view) (
      at,
      saved_in-at (h.size / 4096) 0 (saved_records k bytes) i s has.rising at,
      (rising_at (h.size / 4096) 0 (saved_records k bytes) i s has.rising at).0,
    )

-- Holds if only the records from index `low` up to, but not including, `high` can have the number `number`.
pub record IsSought (saved : List SavedSector) (number low high : ℕ) : Type 0 where
  pub order : low ≤ high
  pub within : high ≤ length saved
  pub before : (i : ℕ) (s : SavedSector) → slice_get saved i ≡ Some s → i < low → s.number < number
  pub after : (i : ℕ) (s : SavedSector) → slice_get saved i ≡ Some s → high ≤ i → number < s.number

risen : (sectors least : ℕ) (ss : List SavedSector) (i j : ℕ) (s t : SavedSector) → AreRising sectors least ss
    → slice_get ss i ≡ Some s → slice_get ss j ≡ Some t → i ≤ j → s.number ≤ t.number
risen sectors least [] i j s t rising e f upto = absurd cc
risen sectors least (u ∷ ss) zero j s t rising e f upto =
    rw (← same_Some u s e) (rising_at sectors u.number (u ∷ ss) j t (rising.0, omega arith, rising.2) f).1
risen sectors least (u ∷ ss) (suc i) zero s t rising e f upto = absurd (omega arith)
risen sectors least (u ∷ ss) (suc i) (suc j) s t rising e f upto =
    risen sectors (u.number + 1) ss i j s t rising.2 e f (omega arith)

pub sought_above : (sectors : ℕ) (ss : List SavedSector) (n low high middle : ℕ) (t : SavedSector)
    → AreRising sectors 0 ss → IsSought ss n low high → slice_get ss middle ≡ Some t → middle < high → t.number < n
    → IsSought ss n (middle + 1) high
sought_above sectors ss n low high middle t rising sought at below less = record {
  order = omega arith;
  within = sought.within;
  before = λ i s is lower. let upto = risen sectors 0 ss i middle s t rising is at (omega arith) in omega arith;
  after = sought.after;
}

pub sought_below : (sectors : ℕ) (ss : List SavedSector) (n low high middle : ℕ) (t : SavedSector)
    → AreRising sectors 0 ss → IsSought ss n low high → slice_get ss middle ≡ Some t → low ≤ middle → middle < high
    → n < t.number → IsSought ss n low middle
sought_below sectors ss n low high middle t rising sought at from below more = record {
  order = from;
  within = let within = sought.within in omega arith;
  before = sought.before;
  after = λ i s is upper. let upto = risen sectors 0 ss middle i t s rising at is upper in omega arith;
}

pub sought_none : (ss : List SavedSector) (n low high : ℕ) → IsSought ss n low high → high ≤ low → saved_in ss n ≡ None
sought_none ss n low high sought empty = grind (arith, saved_in-record ss n)
