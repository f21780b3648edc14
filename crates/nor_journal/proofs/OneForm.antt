use Rattle.std.proofs.Common.{◌≡◌, ℕ, ◌+◌, ◌-◌, ◌/◌, ◌^◌, ◌<◌, ◌≤◌, true, List, [], ◌∷◌, ◌++◌, length, take, drop}
use Rattle.std.proofs.Common.{Option, refl, sym, ap, ◌∙◌, append_assoc, arith, inl, inr}
use Rattle.std.specs.Prelude.{IfSome, Result, Ok, Err, IfOk, IfErr, OnOk, IsOkAnd}
use Rattle.std.specs.Option.{unwrap_or}
use Rattle.std.proofs.lemmas.List.{length-append, append-nil, take_at, drop_at, length-take, length-drop}
use Rattle.std.proofs.lemmas.List.{append_cancel_left, take-append-drop}
use Rattle.sha2.specs.Sha256.{sha256}
use Rattle.nor_geometry.specs.Size.{is_chip_size}
use Rattle.nor_geometry.proofs.Sizes.{is_chip_size-in_blocks}
use Rattle.nor_journal.specs.Number.{number_text, number_at}
use Rattle.nor_journal.specs.Text.{SavedSector, Content, IsContent, IsSectorBelow, AreRising, magic, SameHeader, head}
use Rattle.nor_journal.specs.Text.{record_text, records_text, front, body, text, end_mark, least_after, next_number}
use Rattle.nor_journal.specs.Fault.{header_length, HasFault, HeaderFault, NextFault}
use Rattle.nor_journal.specs.Reading.{BeginsRecord}
use Rattle.nor_journal.proofs.SectorRecords.{length-number_text, number_at-number_text, number_at-take}
use Rattle.sha2.proofs.Facts256.{length-sha256}
use Rattle.nor_journal.specs.declared.fault.JournalFault.{JournalFault}

pub same_parts : (a b : List ℕ) {x y : List ℕ} → length a ≡ length b → a ++ x ≡ b ++ y → (a ≡ b) × (x ≡ y)
same_parts a b {x} {y} len e = (
  sym (take_at a x _ len) ∙ ap (take (length b)) e ∙ take_at b y _ refl,
  sym (drop_at a x _ len) ∙ ap (drop (length b)) e ∙ drop_at b y _ refl,
)

same_number : (m n : ℕ) {x y : List ℕ} → m < 2 ^ 32 → n < 2 ^ 32 → number_text m ++ x ≡ number_text n ++ y
    → (m ≡ n) × (x ≡ y)
same_number m n {x} {y} m-fits n-fits e = (
  sym (number_at-number_text m x m-fits) ∙ ap number_at e ∙ number_at-number_text n y n-fits,
  (same_parts (number_text m) (number_text n) (length-number_text m ∙ sym (length-number_text n)) e).1,
)

pub length-end_mark : length end_mark ≡ 4
unfolding end_mark
length-end_mark = refl

pub number_at-marked : (rest : List ℕ) → take 4 rest ≡ end_mark → number_at rest ≡ 4294967295
unfolding end_mark number_at
number_at-marked rest is_mark = sym (number_at-take rest) ∙ ap number_at is_mark

pub few_sectors : (size : ℕ) → is_chip_size size ≡ true → size / 4096 ≤ 4096
few_sectors size is = omega (arith, (is_chip_size-in_blocks size is).small)

same_record : (sectors : ℕ) (s t : SavedSector) {x y : List ℕ} → sectors ≤ 4096 → IsSectorBelow sectors s
    → IsSectorBelow sectors t → record_text s ++ x ≡ record_text t ++ y → (s ≡ t) × (x ≡ y)
unfolding record_text
same_record sectors s t {x} {y} few s-is t-is e =
    let numbers = same_number s.number t.number (omega (arith, s-is.place)) (omega (arith, t-is.place))
    (sym (append_assoc (number_text s.number) s.bytes x) ∙ e ∙ append_assoc (number_text t.number) t.bytes y) in
    let rest = same_parts s.bytes t.bytes (s-is.whole ∙ sym t-is.whole) numbers.1 in
    (ap (λ (n : ℕ). record s { number = n }) numbers.0 ∙ ap (λ (b : List ℕ). record t { bytes = b }) rest.0, rest.1)

begins_record : (sectors least : ℕ) (s : SavedSector) (rest bytes : List ℕ) → sectors ≤ 4096
    → IsSectorBelow sectors s → least ≤ s.number → bytes ≡ record_text s ++ rest
    → BeginsRecord sectors least bytes (number_at bytes)
unfolding record_text
begins_record sectors least s rest bytes few is rises e =
    let opened : bytes ≡ number_text s.number ++ (s.bytes ++ rest) = rw append_assoc at e in
    let number : number_at bytes ≡ s.number =
    ap number_at opened ∙ number_at-number_text _ _ (omega (arith, is.place)) in
    record {
      is = refl;
      rises = omega arith;
      place = omega (arith, is.place);
      whole = omega (arith, simp length-append at (ap length opened), length-number_text s.number, is.whole);
    }

-- Holds if `bytes` don't begin with a complete record whose number is at least `least` and below `sectors`.
abbrev pub NoRecord : (sectors least : ℕ) → List ℕ → Type 0
NoRecord sectors least bytes = BeginsRecord sectors least bytes (number_at bytes) → ⊥

same_records : (sectors least : ℕ) (ss ts : List SavedSector) (x y : List ℕ) → sectors ≤ 4096
    → AreRising sectors least ss → AreRising sectors least ts → NoRecord sectors (least_after least ss) x
    → NoRecord sectors (least_after least ts) y → records_text ss ++ x ≡ records_text ts ++ y → (ss ≡ ts) × (x ≡ y)
unfolding records_text
same_records sectors least [] [] x y few s-are t-are no_x no_y e = (refl, e)
same_records sectors least [] (t ∷ ts) x y few s-are t-are no_x no_y e =
    absurd (no_x (begins_record sectors least t (records_text ts ++ y) x few t-are.0 t-are.1 (e ∙ append_assoc _ _ y)))
same_records sectors least (s ∷ ss) [] x y few s-are t-are no_x no_y e = absurd
    (no_y (begins_record sectors least s (records_text ss ++ x) y few s-are.0 s-are.1 (sym e ∙ append_assoc _ _ x)))
same_records sectors least (s ∷ ss) (t ∷ ts) x y few s-are t-are no_x no_y e =
    let first = same_record sectors s t few s-are.0 t-are.0 (sym (append_assoc _ _ x) ∙ e ∙ append_assoc _ _ y) in
    let rest = same_records sectors (s.number + 1) ss ts x y few s-are.2 (rw first.0 t-are.2) no_x (rw first.0 no_y)
    first.1 in
    (rw (first.0, rest.0) refl, rest.1)

pub length-magic : (u : Option (List ℕ)) → length (magic u) ≡ 8
length-magic u = grind arith

pub same_format : (u v : Option (List ℕ)) → magic u ≡ magic v → header_length u ≡ header_length v
same_format u v e = grind arith

length-unique : (u : Option (List ℕ)) → IfSome u (λ unique. length unique ≡ 8)
    → length (unwrap_or u []) + 17 ≡ header_length u
length-unique u is = grind arith

same_unique : (u v : Option (List ℕ)) → header_length u ≡ header_length v → unwrap_or u [] ≡ unwrap_or v [] → u ≡ v
same_unique u v f e = grind arith

pub head_opened : (c : Content) (x : List ℕ)
    → head c ++ x ≡ magic c.unique ++ (c.id ++ (unwrap_or c.unique [] ++ (c.status ++ (number_text c.size ++ x))))
unfolding head
head_opened c x = simp append_assoc

pub length-head : (c : Content) → IsContent c → length (head c) ≡ header_length c.unique
unfolding head
length-head c is =
    simp (length-append, length-magic, length-number_text)
    (omega (arith, length-unique c.unique is.unique, is.id, is.status))

same_heads : (c d : Content) (x y : List ℕ) → IsContent c → IsContent d → head c ++ x ≡ head d ++ y
    → SameHeader c d × (x ≡ y)
same_heads c d x y c-is d-is e =
    let magics = same_parts (magic c.unique) (magic d.unique)
    (length-magic c.unique ∙ sym (length-magic d.unique)) (sym (head_opened c x) ∙ e ∙ head_opened d y) in
    let format = same_format c.unique d.unique magics.0 in
    let ids = same_parts c.id d.id (c-is.id ∙ sym d-is.id) magics.1 in
    let uniques = same_parts (unwrap_or c.unique []) (unwrap_or d.unique [])
    (omega (arith, length-unique c.unique c-is.unique, length-unique d.unique d-is.unique, format)) ids.1 in
    let statuses = same_parts c.status d.status (c-is.status ∙ sym d-is.status) uniques.1 in
    let sizes = same_number c.size d.size (omega (arith, few_sectors c.size c-is.size))
    (omega (arith, few_sectors d.size d-is.size)) statuses.1 in
    let unique = same_unique c.unique d.unique format uniques.0 in
    (cc, sizes.1)

pub front_opened : (c : Content) (x : List ℕ) → front c ++ x ≡ head c ++ (records_text c.saved ++ x)
unfolding front
front_opened c x = rw append_assoc

pub text_opened : (c : Content) → text c ≡ front c ++ (end_mark ++ sha256 (body c))
unfolding text body
text_opened c = rw append_assoc

-- Let `c` and `d` be valid. Let `x` begin with no valid record that may follow those of `c`, and `y` with none that may
-- follow those of `d`. If `front c ++ x` equals `front d ++ y`, then `c` equals `d`, and `x` equals `y`.
pub same_fronts : (c d : Content) (x y : List ℕ) → IsContent c → IsContent d
    → NoRecord (c.size / 4096) (next_number c) x → NoRecord (d.size / 4096) (next_number d) y
    → front c ++ x ≡ front d ++ y → (c ≡ d) × (x ≡ y)
unfolding next_number
same_fronts c d x y c-is d-is no_x no_y e =
    let heads = same_heads c d _ _ c-is d-is (sym (front_opened c x) ∙ e ∙ front_opened d y) in
    let size : c.size ≡ d.size = ap (λ (h : Content). h.size) heads.0 in
    let records = same_records (c.size / 4096) 0 c.saved d.saved x y (few_sectors c.size c-is.size) c-is.saved
    (rw size d-is.saved) no_x (rw size no_y) heads.1 in (
      ap (λ (h : Content). record h { saved = c.saved }) heads.0
          ∙ ap (λ (ss : List SavedSector). record d { saved = ss }) records.0,
      records.1,
    )

least_head : (u : Option (List ℕ)) → 17 ≤ header_length u
least_head u = grind arith

one_in_head : (bytes : List ℕ) (f g : JournalFault) → HeaderFault bytes f → HeaderFault bytes g → f ≡ g
one_in_head bytes f g p q = grind (arith, same_format, least_head)

head_number : (c : Content) (x : List ℕ) → IsContent c
    → number_at (drop (header_length c.unique - 4) (head c ++ x)) ≡ c.size
unfolding head
head_number c x is =
    let before : List ℕ = ((magic c.unique ++ c.id) ++ unwrap_or c.unique []) ++ c.status in
    let len : length before ≡ header_length c.unique - 4 =
    omega (arith, length-head c is, length-append before (number_text c.size), length-number_text c.size) in
    rw (append_assoc before (number_text c.size) x, drop_at before (number_text c.size ++ x) _ len)
    (number_at-number_text c.size x (omega (arith, few_sectors c.size is.size)))

none_in_head : (c : Content) (x : List ℕ) (f : JournalFault) → IsContent c → HeaderFault (head c ++ x) f → ⊥
none_in_head c x f is found =
    let begins = ap (take 8) (head_opened c x) ∙ take_at _ _ _ (length-magic c.unique) in
    let long = length-append (head c) x in let len = length-head c is in let number = head_number c x is in
    grind (arith, begins, long, len, number, is.size, same_format, least_head)

one_in_rest : (c : Content) (rest : List ℕ) (f g : JournalFault) → IsContent c → NextFault c rest f → NextFault c rest g
    → f ≡ g
one_in_rest c rest f g is p q =
    grind (arith, number_at-marked rest, few_sectors c.size is.size, length-take 4 rest, length-end_mark)

none_at_end : (c : Content) (f : JournalFault) → IsContent c → NextFault c (end_mark ++ sha256 (body c)) f → ⊥
unfolding body
none_at_end c f is found =
    let digest = sha256 (body c) in
    let mark = take_at end_mark digest 4 length-end_mark in let last = drop_at end_mark digest 4 length-end_mark in
    let long = length-append end_mark digest in let len = length-sha256 (body c) in
    let few = few_sectors c.size is.size in
    grind (arith, number_at-marked (end_mark ++ digest), length-end_mark, mark, last, long, len, few)

faulty : (c : Content) (rest : List ℕ) (f : JournalFault) → IsContent c → NextFault c rest f
    → NoRecord (c.size / 4096) (next_number c) rest
faulty c rest f is found begins = grind (arith, number_at-marked rest, few_sectors c.size is.size)

not_in_head : (bytes : List ℕ) (f : JournalFault) (c : Content) (rest : List ℕ) → IsContent c
    → bytes ≡ front c ++ rest → HeaderFault bytes f → ⊥
not_in_head bytes f c rest is split found =
    none_in_head c (records_text c.saved ++ rest) f is (rw (split ∙ front_opened c rest) at found)

no_record : (c : Content) (following : List ℕ) → IsContent c
    → NoRecord (c.size / 4096) (next_number c) (end_mark ++ following)
no_record c following is begins =
    let mark = take_at end_mark following 4 length-end_mark in
    omega (arith, begins.place, number_at-marked (end_mark ++ following) mark, few_sectors c.size is.size)

pub one_fault : (bytes : List ℕ) (f g : JournalFault) → HasFault bytes f → HasFault bytes g → f ≡ g
one_fault bytes f g (inl p) (inl q) = one_in_head bytes f g p q
one_fault bytes f g (inl p) (inr q) = absurd (not_in_head bytes f q.content q.rest q.is_content q.split p)
one_fault bytes f g (inr p) (inl q) = absurd (not_in_head bytes g p.content p.rest p.is_content p.split q)
one_fault bytes f g (inr p) (inr q) =
    let same = same_fronts p.content q.content p.rest q.rest p.is_content q.is_content
    (faulty _ _ f p.is_content p.next) (faulty _ _ g q.is_content q.next) (sym p.split ∙ q.split) in
    one_in_rest p.content p.rest f g p.is_content p.next (rw (same.0, same.1) q.next)

pub faultless : (c : Content) (bytes : List ℕ) (fault : JournalFault) → IsContent c → bytes ≡ text c → HasFault bytes fault → ⊥
faultless c bytes fault is e (inl found) =
    not_in_head bytes fault c (end_mark ++ sha256 (body c)) is (e ∙ text_opened c) found
faultless c bytes fault is e (inr found) =
    let same = same_fronts c found.content _ found.rest is found.is_content (no_record c _ is)
    (faulty _ _ fault found.is_content found.next) (sym (text_opened c) ∙ sym e ∙ found.split) in
    none_at_end c fault is (rw (same.1, same.0) found.next)

text_then : (c : Content) (x : List ℕ) → text c ++ x ≡ front c ++ (end_mark ++ (sha256 (body c) ++ x))
text_then c x = rw text_opened (simp append_assoc)

pub one_text : (c d : Content) (x y : List ℕ) → IsContent c → IsContent d → text c ++ x ≡ text d ++ y → (c ≡ d) × (x ≡ y)
one_text c d x y c-is d-is e =
    let same = same_fronts c d _ _ c-is d-is (no_record c _ c-is) (no_record d _ d-is)
    (sym (text_then c x) ∙ e ∙ text_then d y) in
    (same.0, append_cancel_left (text c) x y (e ∙ ap (λ (b : Content). text b ++ y) (sym same.0)))

pub is_read : (bytes : List ℕ) (r : Result Content JournalFault) (c : Content)
    → IfOk r (λ j. IsContent j × (bytes ≡ text j)) → IfErr r (HasFault bytes) → IsContent c → bytes ≡ text c
    → IsOkAnd r (λ j. j ≡ c)
is_read bytes (Ok j) c found fault is e =
    (one_text j c [] [] found.0 is (ap (λ (t : List ℕ). t ++ []) (sym found.1 ∙ e))).0
is_read bytes (Err f) c found fault is e = faultless c bytes f is e fault

pub ends_whole : (bytes : List ℕ) (r : Result Content JournalFault) → IfOk r (λ j. IsContent j × (bytes ≡ text j))
    → OnOk r ((c : Content) (n : ℕ) → IsContent c → take n bytes ≡ text c → length bytes ≤ n)
ends_whole bytes (Ok j) found = λ c n is begins.
    let e : text c ++ drop n bytes ≡ text j ++ [] = rw (← begins, take-append-drop n bytes, append-nil) found.1 in
    omega (arith, ap length (one_text c j (drop n bytes) [] is found.0 e).1, length-drop n bytes)
ends_whole bytes (Err f) found = tt
