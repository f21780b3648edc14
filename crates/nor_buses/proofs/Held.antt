-- Lemmas: the block of a `ReadAhead`, unless it is empty, is the reply to the last transaction over the bus inside.
use Rattle.std.proofs.Common.{◌≡◌, ◌∙◌, ◌<◌, ◌≤◌, ◌+◌, ◌-◌, ◌*◌, ◌++◌, ℕ, true, List, [], ◌∷◌, length, refl, sym, ap, subst, arith, take-take}
use Rattle.std.specs.Prelude.{◌/◌, ◌%◌, Result, Ok, Err, OnOk, take, drop, slice_index}
use Rattle.std.proofs.lemmas.List.{drop-take}
use Rattle.std.proofs.Math.Seq.{take-length, take-append_seam}
use Rattle.nor_model.specs.Bus.{BusState, Records}
use Rattle.nor_model.specs.Exchange.{Exchange}
use Rattle.nor_model.specs.History.{replied}
use Rattle.nor_model.specs.declared.bus.Stopped.{Stopped}
use Rattle.nor_buses.specs.ReadsAs.{reads_data, address_in, part, EndsWithRead, EndsWithData, HoldsReply}

pub read_last : (start : ℕ) (out answer : List ℕ) (earlier history : List Exchange) → reads_data out ≡ true
    → address_in out ≡ start → history ≡ replied out answer ∷ earlier → EndsWithRead start answer history
read_last start out answer earlier history reads address e =
    let P : List Exchange → Type 0 = λ h. EndsWithRead start answer h in
    subst P (sym e) (record { reads = reads; address = address; is = refl })

pub whole_part : (a : ℕ) (bytes : List ℕ) → bytes ≡ part bytes (a - a) (length bytes)
whole_part a bytes =
    let none : a - a ≡ 0 = omega arith in
    sym (ap (λ (k : ℕ). part bytes k (length bytes)) none ∙ take-length bytes)

pub passed : (out answer : List ℕ) (result : Result Unit Stopped) (old new : BusState)
    → Records out answer result old new → reads_data out ≡ true
    → OnOk result (EndsWithData (address_in out) answer new.history)
passed out answer (Err stop) old new records reads = tt
passed out answer (Ok done) old new records reads = record {
  start = address_in out;
  answer = answer;
  read = read_last (address_in out) out answer old.history new.history reads refl records.history;
  begins = omega arith;
  same = whole_part (address_in out) answer;
}

pub part_of_take : (j n len : ℕ) (bytes : List ℕ) → j + n ≤ len → part bytes j n ≡ part (take len bytes) j n
part_of_take j n len bytes fits =
    let m = len - j in
    let whole : j + m ≡ len = omega (arith, fits) in
    let inner : drop j (take len bytes) ≡ take m (drop j bytes) =
    ap (λ (k : ℕ). drop j (take k bytes)) (sym whole) ∙ drop-take j m bytes in
    sym (ap (λ (xs : List ℕ). take n xs) inner ∙ take-take n m (drop j bytes) (omega (arith, fits)))

pub address_sent : (address : ℕ) (bytes : List ℕ) → address ≤ 16777215
    → bytes ≡ address / 16777216 % 256 ∷ address / 65536 % 256 ∷ address / 256 % 256 ∷ address % 256 ∷ []
    → 65536 * slice_index bytes 1 + 256 * slice_index bytes 2 + slice_index bytes 3 ≡ address
address_sent address bytes below e =
    let P : List ℕ → Type 0 = λ b. 65536 * slice_index b 1 + 256 * slice_index b 2 + slice_index b 3 ≡ address in
    subst P (sym e) (omega (arith, below))

pub filled : (address len : ℕ) (bytes answer rest : List ℕ) (result : Result Unit Stopped) (old new : BusState)
    → address ≤ 16777215
    → bytes ≡ address / 16777216 % 256 ∷ address / 65536 % 256 ∷ address / 256 % 256 ∷ address % 256 ∷ []
    → length answer ≡ len
    → Records (3 ∷ slice_index bytes 1 ∷ slice_index bytes 2 ∷ slice_index bytes 3 ∷ []) answer result old new
    → OnOk result (EndsWithRead address (take len (answer ++ rest)) new.history)
filled address len bytes answer rest (Err stop) old new below e whole records = tt
filled address len bytes answer rest (Ok done) old new below e whole records =
    let P : List ℕ → Type 0 = λ read. EndsWithRead address read new.history in
    let same : take len (answer ++ rest) ≡ answer =
    ap (λ (n : ℕ). take n (answer ++ rest)) (sym whole) ∙ take-append_seam answer rest in
    subst P (sym same)
    (read_last address _ answer old.history new.history refl (address_sent address bytes below e) records.history)

pub held_reply : (at n k start len : ℕ) (block reply : List ℕ) (history : List Exchange)
    → HoldsReply block start len history → start ≤ at → at + n ≤ start + len → 0 < n → k ≡ n → length reply ≡ n
    → reply ≡ part block (at - start) k → EndsWithData at reply history
held_reply at n k start len block reply history holds begins ends some whole is same = record {
  start = start;
  answer = take len block;
  read = holds.reply (omega (arith, begins, ends, some));
  begins = begins;
  same = same ∙ part_of_take (at - start) k len block (omega (arith, begins, ends, whole))
      ∙ ap (λ (m : ℕ). part (take len block) (at - start) m) (whole ∙ sym is);
}
