use Rattle.std.proofs.Common.{◌≡◌, ◌<◌, ◌≤◌, ◌+◌, ◌*◌, ◌%◌, ◌∙◌, ℕ, List, [], ◌∷◌, length, slice_index, refl, ap, sym, arith}
use Rattle.std.specs.Prelude.{map, slice_index_or}
use Rattle.std.specs.List.{range_with_len}
use Rattle.std.proofs.Math.Nat.{mod-eq_of_lt}
use Rattle.std.proofs.lemmas.Bool.{eq-eqb}
use Rattle.std.proofs.lemmas.List.{ext_get_or}
use Rattle.std.proofs.lemmas.List.FromFn.{get_or-map-range_with_len, length-map-range_with_len}
use Rattle.nor_model.specs.declared.config.Config.{Config}
use Rattle.nor_model.specs.Chip.{sfdp_byte}
use Rattle.nor_model.specs.Bus.{BusState}
use Rattle.nor_driver.specs.Reads.{Replies, unique_of, shown, ReadsUnique, ReadsSfdp, ReadsSector}

reply_shown : (config : Config) (at len : ℕ) (bytes : List ℕ) → length bytes ≡ len
    → ((i : ℕ) → i < length bytes → slice_index bytes i ≡ sfdp_byte config (at % config.size + i))
    → bytes ≡ shown config at len
unfolding shown
reply_shown config at len bytes long replies =
    let same = length-map-range_with_len (sfdp_byte config) (at % config.size) len in
    ext_get_or 0 bytes (map (sfdp_byte config) (range_with_len (at % config.size) len)) (long ∙ sym same)
    (λ i below. replies i below ∙ sym (get_or-map-range_with_len (sfdp_byte config) (at % config.size) len i _ 0
    (omega arith) refl))

pub reads_sfdp : (old new : BusState) (x y z at len : ℕ) (answer : List ℕ) → 65536 * x + 256 * y + z ≡ at
    → length answer ≡ len → Replies (0x5A ∷ x ∷ y ∷ z ∷ 0 ∷ []) old new answer → ReadsSfdp at len old new answer
reads_sfdp old new x y z at len answer named long replies = record {
  answered = record { out = 0x5A ∷ x ∷ y ∷ z ∷ 0 ∷ []; asks = eq-eqb _ _ named; history = replies.history };
  read = replies.read;
  replied = λ honest idle. reply_shown old.chip.config at len answer long
      (λ i below. replies.replied honest i below ∙ rw (idle, named) refl);
}

address_in_sector : (size at sector i : ℕ) → at ≡ 4096 * sector → 4096 * (sector + 1) ≤ size → i < 4096
    → (at % size + i) % size ≡ 4096 * sector + i
address_in_sector size at sector i names inside small =
    let start : at % size ≡ 4096 * sector = rw names (mod-eq_of_lt (omega arith)) in
    rw start (mod-eq_of_lt (omega arith))

pub reads_sector : (old new : BusState) (x y z sector : ℕ) (answer : List ℕ) → 65536 * x + 256 * y + z ≡ 4096 * sector
    → length answer ≡ 4096 → Replies (0x03 ∷ x ∷ y ∷ z ∷ []) old new answer → ReadsSector sector old new answer
reads_sector old new x y z sector answer named long replies = record {
  answered = record { out = 0x03 ∷ x ∷ y ∷ z ∷ []; asks = eq-eqb _ _ named; history = replies.history };
  read = replies.read;
  replied = λ honest idle inside. record {
    byte = λ i small. replies.replied honest i (omega arith) ∙ rw idle
        (ap old.chip.bytes (address_in_sector old.chip.config.size (65536 * x + 256 * y + z) sector i named inside small));
  };
}

pub reads_unique : (old new : BusState) (x y z last : ℕ) (answer : List ℕ) → length answer ≡ 8
    → Replies (0x4B ∷ x ∷ y ∷ z ∷ last ∷ []) old new answer → ReadsUnique old new answer
reads_unique old new x y z last answer long replies = record {
  answered = record { out = 0x4B ∷ x ∷ y ∷ z ∷ last ∷ []; asks = refl; history = replies.history };
  read = replies.read;
  replied = λ honest idle. ext_get_or 0 answer (unique_of old.chip.config) long
      (λ i below. replies.replied honest i below ∙ rw idle (sym
      (get_or-map-range_with_len (λ i. slice_index_or old.chip.config.unique i 255) 0 8 i i 0
      (omega arith) (omega arith))));
}
