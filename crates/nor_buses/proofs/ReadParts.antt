-- Lemmas on the parts of a reply that a `ReadTwice` reads again: which transactions these second reads are, and that a
-- well-behaved bus returns the same data again.
use Rattle.std.proofs.Common.{◌≡◌, ◌∙◌, ◌<◌, ◌≤◌, ◌+◌, ◌-◌, ◌*◌, ◌/◌, ◌++◌, ◌⊎◌, ℕ, suc, Bool, true, false, List, [], ◌∷◌, length, ltb, refl, sym, ap, subst, arith, inl, inr, length-take-le, length-drop}
use Rattle.std.specs.Prelude.{slice_index, slice_range, take, drop, Result, Ok, Err, IfOk, Option, None, Some}
use Rattle.std.proofs.Common.{Vec, Global}
use Rattle.std.proofs.lemmas.Bool.{cases_Bool, cases_eq, ltb-true, ltb-false, eqb-true, false≢true}
use Rattle.std.proofs.lemmas.List.{ext_get_or, get_or-take, get_or-drop, length-take}
use Rattle.nor_model.specs.Chip.{Chip}
use Rattle.nor_model.specs.Bus.{BusState, Carries, IsHonestFor, SameNature}
use Rattle.nor_model.specs.Exchange.{Exchange}
use Rattle.nor_model.specs.History.{replied}
use Rattle.nor_model.specs.Step.{Step, is_command}
use Rattle.nor_model.specs.declared.bus.Stopped.{Stopped}
use Rattle.nor_buses.specs.ReadsAs.{reads_data, address_in, part, KeepsRecord}
use Rattle.nor_buses.specs.Again.{IsExpected, DiffersInSector, DiffersBetween, data_read, IsReadAgain, WasReadAgain}
use Rattle.nor_buses.specs.Again.{RepeatsDiffering, CarriesDiffering, RepeatsBelow, data_byte, HasData, CarriesOther, FirstRead}
use Rattle.nor_buses.specs.Twice.{begins_read, ReadsTwice}
use Rattle.nor_buses.proofs.ReturnedData.{data_returned, data_stays, data_still, data_read_returned, data_read_stays}
use Rattle.nor_buses.proofs.SameReply.{same_reply}

pub nature_then : (old mid new : BusState) → SameNature old mid → SameNature mid new → SameNature old new
nature_then old mid new one two = record {
  honest = two.honest ∙ one.honest;
  steady = two.steady ∙ one.steady;
  unlimited = two.unlimited ∙ one.unlimited;
  longer = two.longer ∙ one.longer;
  punctual = two.punctual ∙ one.punctual;
  further = two.further ∙ one.further;
  config = λ honest. two.config (one.honest ∙ honest) ∙ one.config honest;
}

pub record_then : (old mid new : BusState) → KeepsRecord old mid → KeepsRecord mid new → KeepsRecord old new
record_then old mid new one two = record {
  sent = two.sent ∙ one.sent;
  allowances = two.allowances ∙ one.allowances;
  further = two.further ∙ one.further;
  polled_ready = two.polled_ready ∙ one.polled_ready;
}

pub fits_less : (out other : List ℕ) (m n : ℕ) (old new : BusState) → SameNature old new → length other ≤ 260 → n ≤ m
    → IsHonestFor out m old → IsHonestFor other n new
fits_less out other m n old new nature short less fits = record {
  honest = nature.honest ∙ fits.honest;
  fits = elim fits.fits [
    | inl unlimited ↦ inl (nature.unlimited ∙ unlimited)
    | inr few ↦ inr (short, omega (arith, less, few.1, nature.longer))
  ];
}

part_length : (bytes : List ℕ) (n len : ℕ) → n + len ≤ length bytes → length (part bytes n len) ≡ len
part_length bytes n len within = length-take-le len (drop n bytes) (omega (arith, within, length-drop n bytes))

part_byte : (bytes : List ℕ) (n len i : ℕ) → i < len → slice_index (part bytes n len) i ≡ slice_index bytes (n + i)
part_byte bytes n len i below = get_or-take len (drop n bytes) i 0 below ∙ get_or-drop n bytes i 0

pub part_returned : (chip : Chip) (at from len : ℕ) (answer other : List ℕ) → HasData chip at answer
    → HasData chip (at + from) other → length other ≡ len → from + len ≤ length answer → other ≡ part answer from len
part_returned chip at from len answer other whole some same within =
    ext_get_or 0 other (part answer from len) (same ∙ sym (part_length answer from len within))
    (λ (i : ℕ) (below : i < length other).
    let inside : i < len = omega (arith, same, below) in
    let next : at + from + i ≡ at + (from + i) = omega arith in
    some.same i below ∙ ap (λ (a : ℕ). data_byte chip a) next
    ∙ sym (whole.same (from + i) (omega (arith, inside, within))) ∙ sym (part_byte answer from len i inside))

pub expected_part : (image : List ℕ) (at : ℕ) (answer : List ℕ) (n m : ℕ) → n ≤ m → m ≤ length answer
    → part answer n (m - n) ≡ part image (at + n) (m - n) → (i : ℕ) → n ≤ i → i < m → IsExpected image at answer i
expected_part image at answer n m order within same i above below =
    let len = m - n in
    let whole : length (part image (at + n) len) ≡ len =
    ap (λ (xs : List ℕ). length xs) (sym same) ∙ part_length answer n len (omega (arith, order, within)) in
    let j = i - n in
    let inside : j < len = omega (arith, above, below) in
    let own : n + j ≡ i = omega (arith, above) in
    let far : at + n + j ≡ at + i = omega (arith, above) in
    record {
      within = omega (arith, whole, length-take len (drop (at + n) image), length-drop (at + n) image, above, below);
      same = ap (λ (k : ℕ). slice_index answer k) (sym own) ∙ sym (part_byte answer n len j inside)
          ∙ ap (λ (xs : List ℕ). slice_index xs j) same ∙ part_byte image (at + n) len j inside
          ∙ ap (λ (k : ℕ). slice_index image k) far;
    }

differ_at : (xs ys : List ℕ) → length xs ≡ length ys → (xs ≡ ys → ⊥)
    → (j : ℕ) × ((j < length xs) × (slice_index xs j ≡ slice_index ys j → ⊥))
differ_at [] [] len differ = absurd (differ refl)
differ_at [] (y ∷ ys) len differ = absurd (omega (arith, len))
differ_at (x ∷ xs) [] len differ = absurd (omega (arith, len))
differ_at (x ∷ xs) (y ∷ ys) len differ =
    elim (cases_eq x y) [
      | inl same ↦
          let rest = differ_at xs ys (omega (arith, len))
          (λ e. differ (ap (λ (k : ℕ). k ∷ xs) same ∙ ap (λ (l : List ℕ). y ∷ l) e)) in
          (suc rest.0, (omega (arith, rest.1.0), rest.1.1))
      | inr other ↦ (0, (omega arith, other))
    ]

pub differs_past : (image : List ℕ) (at : ℕ) (answer : List ℕ) (n m : ℕ) → n < m → length image < at + m
    → DiffersBetween image at answer n m
differs_past image at answer n m some past = record {
  j = m - 1;
  after = omega (arith, some);
  before = omega (arith, some);
  differs = λ (is : IsExpected image at answer (m - 1)). omega (arith, is.within, some, past);
}

pub differs_part : (image : List ℕ) (at : ℕ) (answer : List ℕ) (n m : ℕ) → n < m → m ≤ length answer
    → at + m ≤ length image → (part answer n (m - n) ≡ part image (at + n) (m - n) → ⊥)
    → DiffersBetween image at answer n m
differs_part image at answer n m some within fits differ =
    let len = m - n in
    let own = part_length answer n len (omega (arith, some, within)) in
    let far = part_length image (at + n) len (omega (arith, some, fits)) in
    let found = differ_at (part answer n len) (part image (at + n) len) (own ∙ sym far) differ in
    let k = found.0 in
    let below : k < len = omega (arith, found.1.0, own) in
    let same_address : at + n + k ≡ at + (n + k) = omega arith in
    record {
      j = n + k;
      after = omega arith;
      before = omega (arith, below);
      differs = λ (is : IsExpected image at answer (n + k)).
          found.1.1 (part_byte answer n len k below ∙ is.same ∙ ap (λ (a : ℕ). slice_index image a) (sym same_address)
          ∙ sym (part_byte image (at + n) len k below));
    }

pub differs_all : (image : List ℕ) (at : ℕ) (answer : List ℕ) (n m : ℕ) → DiffersBetween image at answer n m
    → m ≤ length answer → ((i : ℕ) → n ≤ i → i < m → (at + i) / 4096 ≡ (at + n) / 4096) → (i : ℕ) → n ≤ i → i < m
    → DiffersInSector image at answer i
differs_all image at answer n m one within sector i above below = record {
  j = one.j;
  within = omega (arith, one.before, within);
  sector = sector one.j one.after one.before ∙ sym (sector i above below);
  differs = one.differs;
}

pub range_part : (image : List ℕ) (at n m : ℕ) → slice_range image (at + n) (at + m) ≡ part image (at + n) (m - n)
range_part image at n m =
    let len : (at + m) - (at + n) ≡ m - n = omega arith in ap (λ (k : ℕ). take k (drop (at + n) image)) len

pub repeats_none : (image : List ℕ) (at : ℕ) (answer : List ℕ) (old : BusState)
    → RepeatsBelow image at answer 0 old old
repeats_none image at answer old = record {
  later = [];
  is = refl;
  only = tt;
  each = λ i below. absurd (omega (arith, below));
  carried = λ honest. refl;
}

by_end : (P : Type 0) (i n : ℕ) → (i < n → P) → (n ≤ i → P) → P
by_end P i n below above =
    elim (cases_Bool (ltb i n)) [ inl is ↦ below (ltb-true i n is) | inr not ↦ above (ltb-false i n not) ]

pub repeats_expected : (image : List ℕ) (at : ℕ) (answer : List ℕ) (n m : ℕ) (old new : BusState)
    → RepeatsBelow image at answer n old new → ((i : ℕ) → n ≤ i → i < m → IsExpected image at answer i)
    → RepeatsBelow image at answer m old new
repeats_expected image at answer n m old new was expected = record {
  later = was.later;
  is = was.is;
  only = was.only;
  each = λ i below. by_end _ i n (λ less. was.each i less) (λ more. inl (expected i more below));
  carried = was.carried;
}

each_then : (image : List ℕ) (at : ℕ) (answer : List ℕ) (i : ℕ) (more : Exchange) (later : List Exchange)
    → IsExpected image at answer i ⊎ WasReadAgain at answer i later
    → IsExpected image at answer i ⊎ WasReadAgain at answer i (more ∷ later)
each_then image at answer i more later (inl expected) = inl expected
each_then image at answer i more later (inr again) = inr (inr again)

pub repeats_read : (image : List ℕ) (at : ℕ) (answer : List ℕ) (n m : ℕ) (old mid new : BusState)
    → RepeatsBelow image at answer n old mid → n ≤ m → m ≤ length answer
    → new.history ≡ replied (data_read (at + n)) (part answer n (m - n)) ∷ mid.history
    → (IsHonestFor (data_read at) (length answer) old → Carries (data_read (at + n)) (part answer n (m - n)) mid new)
    → ((i : ℕ) → n ≤ i → i < m → DiffersInSector image at answer i) → RepeatsBelow image at answer m old new
repeats_read image at answer n m old mid new was order within grows carries differs =
    let more = replied (data_read (at + n)) (part answer n (m - n)) in
    let read : IsReadAgain image at answer more = record {
      from = n;
      len = m - n;
      within = omega (arith, order, within);
      is = refl;
      needed = λ i above below. differs i above (omega (arith, order, below));
    } in record {
      later = more ∷ was.later;
      is = grows ∙ ap (λ (h : List Exchange). more ∷ h) was.is;
      only = (read, was.only);
      each = λ i below. by_end _ i n (λ less. each_then image at answer i more was.later (was.each i less))
          (λ (above : n ≤ i).
          inr (inl (record {
            from = n;
            len = m - n;
            within = read.within;
            is = refl;
            begins = above;
            ends = omega (arith, order, above, below);
          })));
      carried = λ honest. (mid, (was.carried honest, carries honest));
    }

pub repeats_all : (image out answer : List ℕ) (old mid new : BusState) → reads_data out ≡ true
    → mid.history ≡ replied out answer ∷ old.history
    → RepeatsBelow image (address_in out) answer (length answer) mid new
    → RepeatsDiffering image out answer old.history new.history
repeats_all image out answer old mid new reads first was = record {
  reads = reads;
  later = was.later;
  is = was.is ∙ ap (λ (h : List Exchange). was.later ++ h) first;
  only = was.only;
  each = was.each;
}

pub carries_all : (image out answer : List ℕ) (old mid new : BusState) → reads_data out ≡ true
    → mid.history ≡ replied out answer ∷ old.history
    → RepeatsBelow image (address_in out) answer (length answer) mid new
    → Carries out answer old mid → IsHonestFor (data_read (address_in out)) (length answer) mid
    → CarriesDiffering image out answer old new
unfolding repeats_all
carries_all image out answer old mid new reads first was carries honest = record {
  repeats = repeats_all image out answer old mid new reads first was;
  between = mid;
  first = carries;
  again = was.carried honest;
}

pub part_fits : (at n m : ℕ) (out answer : List ℕ) (old mid : BusState) → out ≡ data_read (at + n) → n ≤ m
    → m ≤ length answer → SameNature old mid → IsHonestFor (data_read at) (length answer) old
    → IsHonestFor out (length (part answer n (m - n))) mid
part_fits at n m out answer old mid sent order within nature honest =
    let len : length out ≡ 4 = ap (λ (xs : List ℕ). length xs) sent in
    fits_less (data_read at) out (length answer) (length (part answer n (m - n))) old mid nature (omega (arith, len))
    (omega (arith, part_length answer n (m - n) (omega (arith, order, within)), order, within)) honest

pub part_stays : (at n m : ℕ) (out answer bytes : List ℕ) (mid new : BusState) → out ≡ data_read (at + n)
    → HasData mid.chip at answer → Carries out bytes mid new → HasData new.chip at answer
part_stays at n m out answer bytes mid new sent has carries =
    let P : List ℕ → Type 0 = λ xs. Step mid.chip xs bytes new.chip in
    data_still at answer mid.chip new.chip
    (data_read_stays (at + n) mid.chip new.chip bytes (subst P sent carries.step)) has

pub part_same : (at n m : ℕ) (out answer : List ℕ) (mid new : BusState) → out ≡ data_read (at + n) → n < m
    → m ≤ length answer → at + length answer ≤ 16777216 → HasData mid.chip at answer
    → CarriesOther out (part answer n (m - n)) mid new → ⊥
part_same at n m out answer mid new sent order within below has other =
    let P : List ℕ → Type 0 = λ xs. Step mid.chip xs other.other new.chip in
    let got = data_read_returned (at + n) mid.chip new.chip other.other (omega (arith, order, within, below))
    (subst P sent other.carries.step) in
    let len = part_length answer n (m - n) (omega (arith, order, within)) in
    other.differs (part_returned mid.chip at n (m - n) answer other.other has got (other.len ∙ len)
    (omega (arith, order, within)))

pub first_data : (out answer : List ℕ) (old new : BusState) → reads_data out ≡ true → FirstRead out answer old new
    → HasData new.chip (address_in out) answer
first_data (opcode ∷ x ∷ y ∷ z ∷ []) answer old new reads first =
    let P : ℕ → Type 0 = λ k. Step old.chip (k ∷ x ∷ y ∷ z ∷ []) answer new.chip in
    let step = subst P (eqb-true opcode 3 reads) first.carries.step in
    data_still (65536 * x + 256 * y + z) answer old.chip new.chip
    (data_stays x y z old.chip new.chip answer step) (data_returned x y z old.chip new.chip answer step)
first_data _ answer old new reads first = absurd (false≢true reads)

pub if_ok : (result : Result Bool Stopped) (P Q : Bool → Type 0) → IfOk result P → ((x : Bool) → P x → Q x)
    → IfOk result Q
if_ok (Ok x) P Q fact leads = leads x fact
if_ok (Err stop) P Q fact leads = tt

true_by : (b : Bool) → (b ≡ false → ⊥) → b ≡ true
true_by true never = refl
true_by false never = absurd (never refl)

pub fits_first : (at : ℕ) (out answer : List ℕ) (old mid : BusState) → FirstRead out answer old mid
    → IsHonestFor out (length answer) old → IsHonestFor (data_read at) (length answer) mid
fits_first at out answer old mid first honest =
    fits_less out (data_read at) (length answer) (length answer) old mid first.nature (omega arith) (omega arith) honest

abbrev pub CarriesBy : (out answer : List ℕ) → (old new : BusState) → (expected : Option (Vec ℕ Global)) → Type 0
CarriesBy out answer old new None = ⊥
CarriesBy out answer old new (Some image) = CarriesDiffering image.items out answer old new

pub carries_expected : (expected : Option (Vec ℕ Global)) (image : Vec ℕ Global) (items out answer : List ℕ) (at : ℕ)
    (old mid new : BusState) → expected ≡ Some image → items ≡ image.items → reads_data out ≡ true
    → at ≡ address_in out → FirstRead out answer old mid → IsHonestFor out (length answer) old
    → RepeatsBelow items at answer (length answer) mid new
    → CarriesBy out answer old new expected
carries_expected expected image items out answer at old mid new is same reads address first honest below =
    let P : Option (Vec ℕ Global) → Type 0 = λ e. CarriesBy out answer old new e in
    let Q : List ℕ → Type 0 = λ bytes. RepeatsBelow bytes at answer (length answer) mid new in
    let R : ℕ → Type 0 = λ a. RepeatsBelow image.items a answer (length answer) mid new in
    subst P (sym is)
    (carries_all image.items out answer old mid new reads first.history (subst R address (subst Q same below))
    first.carries (fits_first (address_in out) out answer old mid first honest))

pub first_data_at : (at : ℕ) (out answer : List ℕ) (old mid : BusState) → reads_data out ≡ true → at ≡ address_in out
    → FirstRead out answer old mid → HasData mid.chip at answer
first_data_at at out answer old mid reads address first =
    let P : ℕ → Type 0 = λ a. HasData mid.chip a answer in
    subst P (sym address) (first_data out answer old mid reads first)

pub carries_whole : (out answer : List ℕ) (old mid new : BusState) (same : Bool) → FirstRead out answer old mid
    → (same ≡ true → Carries out answer mid new) → same ≡ true → ReadsTwice out answer old new
carries_whole out answer old mid new same first again is = record {
  between = mid;
  first = first.carries;
  again = again is;
}

pub whole_same : (out answer : List ℕ) (old mid new : BusState) (same : Bool) → begins_read out ≡ true
    → is_command old.chip.config out (length answer) ≡ true → FirstRead out answer old mid
    → (same ≡ false → CarriesOther out answer mid new) → same ≡ true
whole_same out answer old mid new same reads command first other =
    true_by same (λ is.
    let differing = other is in
    differing.differs (same_reply out old.chip mid.chip new.chip answer differing.other reads command
    first.carries.step differing.carries.step differing.len))

pub fits_data : (at : ℕ) (out answer : List ℕ) (bus : BusState) → IsHonestFor out (length answer) bus
    → IsHonestFor (data_read at) (length answer) bus
fits_data at out answer bus honest = record {
  honest = honest.honest;
  fits = elim honest.fits [ inl unlimited ↦ inl unlimited | inr few ↦ inr (omega arith, few.1) ];
}
