-- Lemmas on the block of a `ReadAhead` if `takes_blocks` is true: its bytes are those that the chip returns if they are
-- read again.
use Rattle.std.proofs.Common.{◌≡◌, ◌∙◌, ◌<◌, ◌≤◌, ◌+◌, ◌-◌, ◌*◌, ◌/◌, ◌%◌, ◌++◌, ◌&&◌, ◌||◌, ℕ, zero, suc, Bool, true, false, List, [], ◌∷◌, length, refl, sym, ap, subst, arith, inl, inr, length-drop}
use Rattle.std.specs.Prelude.{◌==◌, Result, Ok, Err, OnOk, OnErr, nat_le, take, drop, slice_index, if◌then◌else◌}
use Rattle.std.proofs.Math.Nat.{mod-add-mod}
use Rattle.std.proofs.Math.Seq.{take-append_seam}
use Rattle.std.proofs.lemmas.Bool.{false≢true, eqb-true, and_parts, or_cases, leb-true}
use Rattle.std.proofs.lemmas.List.{get_or-take, get_or-drop}
use Rattle.std.proofs.lemmas.Result.{on_ok_weaker, on_err_weaker}
use Rattle.nor_model.specs.Chip.{Chip}
use Rattle.nor_model.specs.declared.command.Command.TheVariants.{ReadData}
use Rattle.nor_model.specs.Step.{Step, Does}
use Rattle.nor_model.specs.Bus.{BusState, SameNature, IsHonestFor, AtStop, Stops, Carries, Records, Transfers}
use Rattle.nor_model.specs.Exchange.{Exchange}
use Rattle.nor_model.specs.declared.bus.Stopped.{Stopped}
use Rattle.nor_buses.specs.Again.{data_read, data_byte, HasData}
use Rattle.nor_buses.specs.Blocks.{takes_blocks, reads_ahead}
use Rattle.nor_buses.specs.Keeps.{KeepsAll, MakesStep}
use Rattle.nor_buses.specs.ReadsAs.{reads_data, address_in, part}
use Rattle.nor_buses.specs.Twice.{begins_read}
use Rattle.nor_buses.proofs.Held.{part_of_take, address_sent}
use Rattle.nor_buses.proofs.ReadsKeep.{read_wears_none}
use Rattle.nor_buses.proofs.ReturnedData.{data_returned, data_stays, data_still}
use Rattle.nor_buses.proofs.SameReply.{read_of}

pub takes_same : (longest : ℕ) (old new : BusState) → SameNature old new
    → takes_blocks longest new ≡ takes_blocks longest old
takes_same longest old new nature =
    ap (λ (honest : Bool). honest && (new.unlimited || nat_le longest (4096 + new.longer))) nature.honest
    ∙ ap (λ (unlimited : Bool). old.honest && (unlimited || nat_le longest (4096 + new.longer))) nature.unlimited
    ∙ ap (λ (longer : ℕ). old.honest && (old.unlimited || nat_le longest (4096 + longer))) nature.longer

pub block_fits : (address len longest : ℕ) (inside : BusState) → takes_blocks longest inside ≡ true → len ≤ longest
    → IsHonestFor (data_read address) len inside
block_fits address len longest inside takes few =
    let parts = and_parts inside.honest (inside.unlimited || nat_le longest (4096 + inside.longer)) takes in record {
      honest = parts.0;
      fits = elim (or_cases inside.unlimited (nat_le longest (4096 + inside.longer)) parts.1) [
        | inl unlimited ↦ inl unlimited
        | inr short ↦
            let most : longest ≤ 4096 + inside.longer = leb-true longest (4096 + inside.longer) short in
            inr (omega arith, omega (arith, few, most))
      ];
    }

pub block_read : (w x y z address len n : ℕ) (inside : BusState) → n ≡ len → IsHonestFor (data_read address) len inside
    → IsHonestFor (w ∷ x ∷ y ∷ z ∷ []) n inside
block_read w x y z address len n inside same fits = record {
  honest = fits.honest;
  fits = elim fits.fits [ inl unlimited ↦ inl unlimited | inr few ↦ inr (omega arith, omega (arith, few.1, same)) ];
}

data_does : (idle : Bool) (at : ℕ) (chip : Chip) (reply : List ℕ)
    → ((i : ℕ) → i < length reply
    → slice_index reply i ≡ (if idle then chip.bytes ((at + i) % chip.config.size) else 255))
    → Does (read_of idle (ReadData (at % chip.config.size))) [] chip reply chip
data_does true at chip reply same = record {
  replies = λ i below. same i below ∙ sym (ap (λ (a : ℕ). chip.bytes a) (mod-add-mod at chip.config.size i));
  config = refl;
  bytes = λ a. refl;
  kept = refl;
  busy = refl;
  latch = refl;
  running = refl;
}
data_does false at chip reply same = record {
  replies = same;
  config = refl;
  bytes = λ a. refl;
  kept = refl;
  busy = refl;
  latch = refl;
  running = refl;
}

data_step : (out reply : List ℕ) (chip : Chip) → reads_data out ≡ true → HasData chip (address_in out) reply
    → Step chip out reply chip
data_step (opcode ∷ x ∷ y ∷ z ∷ []) reply chip reads has =
    let P : ℕ → Type 0 = λ k. Step chip (k ∷ x ∷ y ∷ z ∷ []) reply chip in
    subst P (sym (eqb-true opcode 3 reads))
    (data_does (chip.busy == 0) (65536 * x + 256 * y + z) chip reply has.same)
data_step _ reply chip reads has = absurd (false≢true reads)

data_begins : (out : List ℕ) → reads_data out ≡ true → begins_read out ≡ true
data_begins (opcode ∷ x ∷ y ∷ z ∷ []) reads =
    let P : ℕ → Type 0 = λ k. begins_read (k ∷ x ∷ y ∷ z ∷ []) ≡ true in
    subst P (sym (eqb-true opcode 3 reads)) refl
data_begins _ reads = absurd (false≢true reads)

pub held_made : (out reply : List ℕ) (old new : BusState) → reads_data out ≡ true → KeepsAll old new
    → HasData new.chip (address_in out) reply → MakesStep out reply old new
held_made out reply old new reads keeps has = record {
  step = subst (λ (chip : Chip). Step old.chip out reply chip) (sym keeps.chip)
      (data_step out reply old.chip reads
      (subst (λ (chip : Chip). HasData chip (address_in out) reply) keeps.chip has));
  worn = λ s. keeps.worn s ∙ read_wears_none old.chip out (length reply) s (old.worn s) (data_begins out reads);
}

pub made_on_ok : (out reply : List ℕ) (at : ℕ) (result : Result Unit Stopped) (old new : BusState)
    → reads_data out ≡ true → at ≡ address_in out → OnOk result (KeepsAll old new)
    → OnOk result (HasData new.chip at reply) → OnOk result (MakesStep out reply old new)
made_on_ok out reply at (Ok done) old new reads is keeps has =
    held_made out reply old new reads keeps (subst (λ (a : ℕ). HasData new.chip a reply) is has)
made_on_ok out reply at (Err stop) old new reads is keeps has = tt

take_most : (n : ℕ) (xs : List ℕ) → length (take n xs) ≤ length xs
take_most zero xs = omega arith
take_most (suc n) [] = omega arith
take_most (suc n) (x ∷ rest) = omega (arith, take_most n rest)

pub held_data : (at n k start len : ℕ) (block reply : List ℕ) (chip : Chip)
    → (0 < len → HasData chip start (take len block)) → start ≤ at → at + n ≤ start + len → k ≡ n → length reply ≡ n
    → reply ≡ part block (at - start) k → HasData chip at reply
held_data at n k start len block reply chip has begins ends whole is same = record {
  same = λ i below.
      let j = at - start in
      let inside : i < k = omega (arith, below, whole, is) in
      let some : 0 < len = omega (arith, inside, whole, begins, ends) in
      let first : reply ≡ part (take len block) j k =
      same ∙ part_of_take j k len block (omega (arith, begins, ends, whole)) in
      let most : length (part (take len block) j k) ≤ length (drop j (take len block)) =
      take_most k (drop j (take len block)) in
      let rest : length (drop j (take len block)) ≡ length (take len block) - j = length-drop j (take len block) in
      let long : length (part (take len block) j k) ≡ n = sym (ap (λ (xs : List ℕ). length xs) first) ∙ is in
      let within : j + i < length (take len block) = omega (arith, most, rest, long, inside, whole) in
      let byte : slice_index (part (take len block) j k) i ≡ slice_index (take len block) (j + i) =
      get_or-take k (drop j (take len block)) i 0 inside ∙ get_or-drop j (take len block) i 0 in
      let place : start + (j + i) ≡ at + i = omega (arith, begins) in
      ap (λ (xs : List ℕ). slice_index xs i) first ∙ byte ∙ (has some).same (j + i) within
      ∙ ap (λ (a : ℕ). data_byte chip a) place;
}

pub filled_data : (address len : ℕ) (bytes answer rest : List ℕ) (old new : BusState) → address ≤ 16777215
    → bytes ≡ address / 16777216 % 256 ∷ address / 65536 % 256 ∷ address / 256 % 256 ∷ address % 256 ∷ []
    → length answer ≡ len
    → Carries (3 ∷ slice_index bytes 1 ∷ slice_index bytes 2 ∷ slice_index bytes 3 ∷ []) answer old new
    → HasData new.chip address (take len (answer ++ rest))
filled_data address len bytes answer rest old new below e whole carries =
    let x = slice_index bytes 1 in
    let y = slice_index bytes 2 in
    let z = slice_index bytes 3 in
    let has : HasData new.chip (65536 * x + 256 * y + z) answer =
    data_still (65536 * x + 256 * y + z) answer old.chip new.chip
    (data_stays x y z old.chip new.chip answer carries.step) (data_returned x y z old.chip new.chip answer carries.step)
    in
    let same : take len (answer ++ rest) ≡ answer =
    ap (λ (n : ℕ). take n (answer ++ rest)) (sym whole) ∙ take-append_seam answer rest in
    subst (λ (read : List ℕ). HasData new.chip address read) (sym same)
    (subst (λ (a : ℕ). HasData new.chip a answer) (address_sent address bytes below e) has)

module _ (out : List ℕ) (a b : BusState) (h h' : List Exchange) (longest longest' : ℕ) where
  stops_ahead : AtStop out a b → Stops out (reads_ahead longest a h) (reads_ahead longest' b h')
  stops_ahead at = record {
    none_left = λ punctual. absurd (false≢true punctual);
    left = λ punctual. absurd (false≢true punctual);
    at_stop = record {
      count = at.count;
      read = at.read;
      reached = at.reached;
      step = at.step;
      chip = at.chip;
      worn = at.worn;
      none = at.none;
      unsent = at.unsent;
    };
  }

  carries_ahead : {answer : List ℕ} → MakesStep out answer a b
      → Carries out answer (reads_ahead longest a h) (reads_ahead longest' b h')
  carries_ahead made = record {
    left = λ punctual. absurd (false≢true punctual);
    step = made.step;
    worn = made.worn;
  }

pub transfers_ahead : (out before answer : List ℕ) (a b : BusState) (h h' : List Exchange) (longest longest' : ℕ)
    (outcome : Result Unit Stopped) → longest' ≡ longest → SameNature a b
    → (IsHonestFor out (length before) (reads_ahead longest a h) → OnErr outcome (AtStop out a b))
    → (IsHonestFor out (length before) (reads_ahead longest a h) → OnOk outcome (MakesStep out answer a b))
    → Records out answer outcome (reads_ahead longest a h) (reads_ahead longest' b h')
    → Transfers out before answer outcome (reads_ahead longest a h) (reads_ahead longest' b h')
transfers_ahead out before answer a b h h' longest longest' outcome same nature stops steps records = record {
  nature = record {
    honest = ap (λ (n : ℕ). takes_blocks n b) same ∙ takes_same longest a b nature;
    steady = nature.steady;
    unlimited = nature.unlimited;
    longer = nature.longer;
    punctual = refl;
    further = nature.further;
    config = λ honest. nature.config (and_parts a.honest (a.unlimited || nat_le longest (4096 + a.longer)) honest).0;
  };
  stops = λ fits. on_err_weaker outcome (stops_ahead out a b h h' longest longest') (stops fits);
  unread = λ fits punctual. absurd (false≢true punctual);
  carries = λ fits. on_ok_weaker outcome (carries_ahead out a b h h' longest longest') (steps fits);
  records = records;
}
