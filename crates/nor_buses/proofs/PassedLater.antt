-- Lemmas: a read passes on nothing that may modify a chip. A page program in parts passes on only parts of it and write
-- enables.
use Rattle.std.proofs.Common.{◌≡◌, ◌∙◌, ◌<◌, ◌≤◌, ◌+◌, ◌-◌, ◌*◌, ◌/◌, ◌%◌, ◌++◌, ◌&&◌, ℕ, Bool, true, List, [], ◌∷◌, None, Some, length, refl, sym, ap, subst, arith, inl, inr, append_assoc, length-take-le, length-drop}
use Rattle.std.specs.Prelude.{nat_le, nat_lt, drop, slice_index, if◌then◌else◌}
use Rattle.std.proofs.lemmas.Bool.{false≢true, and_parts, leb-true, ltb-true, le-leb, lt-ltb}
use Rattle.std.proofs.lemmas.Bool.Decides.{nat_tests}
use Rattle.std.proofs.lemmas.Option.{cond_some}
use Rattle.std.proofs.lemmas.List.{get_or-take, get_or-drop}
use Rattle.std.proofs.lemmas.List.Elements.{All-nil, All-cons, All-append}
use Rattle.nor_model.specs.Command.{begins_quiet}
use Rattle.nor_model.specs.Sent.{Sent, begins_program, byte_from}
use Rattle.nor_model.specs.Passed.{IsProgramPart, IsStepOf, Passes, PassesParts}
use Rattle.nor_model.proofs.Passed.{quiet_passes}
use Rattle.nor_buses.specs.Parts.{address_bytes}
use Rattle.nor_buses.specs.ReadsAs.{address_in, part}
use Rattle.nor_buses.specs.Twice.{begins_read}

read_quiet : (out : List ℕ) → begins_read out ≡ true → begins_quiet out ≡ true
read_quiet [] reads = absurd (false≢true reads)
read_quiet (opcode ∷ rest) reads = grind (arith, reads, nat_tests)

pub read_passes : (out : List ℕ) (old new : Sent) → begins_read out ≡ true → Passes out old new → new ≡ old
read_passes out old new reads passes = quiet_passes out old new (read_quiet out reads) passes

pub parts_before : (out : List ℕ) (old mid new : Sent) → PassesParts out old mid → new ≡ mid → PassesParts out old new
parts_before out old mid new was same = subst (λ (s : Sent). PassesParts out old s) (sym same) was

whole_address : (address : ℕ) → address ≤ 16777215
    → 65536 * (address / 65536 % 256) + 256 * (address / 256 % 256) + address % 256 ≡ address
whole_address address below = omega (arith, below)

part_len : (bytes : List ℕ) (n len : ℕ) → n + len ≤ length bytes → length (part bytes n len) ≡ len
part_len bytes n len within = length-take-le len (drop n bytes) (omega (arith, within, length-drop n bytes))

-- Byte `n` of `bytes` and the first byte of `part bytes n len` have the same address.
byte_within : (start n len : ℕ) (bytes piece : List ℕ) (a byte : ℕ) → piece ≡ part bytes n len
    → n + len ≤ length bytes → byte_from (start + n) piece a ≡ Some byte → byte_from start bytes a ≡ Some byte
byte_within start n len bytes piece a byte is within at =
    let i = a - (start + n) in
    let found = cond_some (nat_le (start + n) a && nat_lt a (start + n + length piece)) (slice_index piece i) byte at in
    let parts = and_parts (nat_le (start + n) a) (nat_lt a (start + n + length piece)) found.0 in
    let from : start + n ≤ a = leb-true (start + n) a parts.0 in
    let below : a < start + n + length piece = ltb-true a (start + n + length piece) parts.1 in
    let long : length piece ≡ len = ap (λ (xs : List ℕ). length xs) is ∙ part_len bytes n len within in
    let place : n + i ≡ a - start = omega (arith, from) in
    let same : slice_index piece i ≡ slice_index bytes (a - start) =
    ap (λ (xs : List ℕ). slice_index xs i) is
    ∙ get_or-take len (drop n bytes) i 0 (omega (arith, from, below, long)) ∙ get_or-drop n bytes i 0
    ∙ ap (λ (k : ℕ). slice_index bytes k) place in
    let covers : (nat_le start a && nat_lt a (start + length bytes)) ≡ true =
    ap (λ (b : Bool). b && nat_lt a (start + length bytes)) (le-leb start a (omega (arith, from)))
    ∙ lt-ltb a (start + length bytes) (omega (arith, below, long, within)) in
    ap (λ (b : Bool). if b then Some (slice_index bytes (a - start)) else None) covers
    ∙ ap (λ (x : ℕ). Some x) (sym same ∙ found.1)

part_of : (address n len : ℕ) (all piece : List ℕ) → address + n ≤ 16777215 → piece ≡ part all n len
    → n + len ≤ length all → IsProgramPart (2 ∷ address_bytes address ++ all) (2 ∷ address_bytes (address + n) ++ piece)
part_of address n len all piece below is within = record {
  program = refl;
  bytes = λ a byte at.
      let there : byte_from (address + n) piece a ≡ Some byte =
      subst (λ (k : ℕ). byte_from k piece a ≡ Some byte) (whole_address (address + n) below) at in
      subst (λ (k : ℕ). byte_from k all a ≡ Some byte) (sym (whole_address address (omega (arith, below))))
      (byte_within address n len all piece a byte is within there);
}

step_of_part : (out piece step : List ℕ) → IsProgramPart out piece → IsStepOf piece step → IsStepOf out step
step_of_part out piece step is (inl enable) = inl enable
step_of_part out piece step is (inr smaller) = inr (record {
  program = smaller.program;
  bytes = λ a byte at. is.bytes a byte (smaller.bytes a byte at);
})

none_passed : (out : List ℕ) (old : Sent) → begins_program out ≡ true → PassesParts out old old
none_passed out old program = record {
  program = program;
  later = [];
  is = refl;
  steps = All-nil (λ (step : List ℕ). IsStepOf out step);
}

pub then_enabled : (out : List ℕ) (old mid new : Sent) → PassesParts out old mid → Passes (6 ∷ []) mid new
    → PassesParts out old new
then_enabled out old mid new was passes = elim passes [
  | inl same ↦ parts_before out old mid new was same
  | inr rest ↦ elim rest [
    | inl sent ↦ record {
      program = was.program;
      later = (6 ∷ []) ∷ was.later;
      is = sent ∙ ap (λ (s : Sent). (6 ∷ []) ∷ s) was.is;
      steps = All-cons (λ (step : List ℕ). IsStepOf out step) (6 ∷ []) was.later (inl refl) was.steps;
    }
    | inr parts ↦ absurd (false≢true parts.program)
  ]
]

then_part : (out rest : List ℕ) (old mid new : Sent) → PassesParts out old mid → IsProgramPart out (2 ∷ rest)
    → Passes (2 ∷ rest) mid new → PassesParts out old new
then_part out rest old mid new was piece passes = elim passes [
  | inl same ↦ parts_before out old mid new was same
  | inr more ↦ elim more [
    | inl sent ↦ record {
      program = was.program;
      later = (2 ∷ rest) ∷ was.later;
      is = sent ∙ ap (λ (s : Sent). (2 ∷ rest) ∷ s) was.is;
      steps = All-cons (λ (step : List ℕ). IsStepOf out step) (2 ∷ rest) was.later (inr piece) was.steps;
    }
    | inr parts ↦ record {
      program = was.program;
      later = parts.later ++ was.later;
      is = parts.is ∙ ap (λ (s : Sent). parts.later ++ s) was.is ∙ sym (append_assoc parts.later was.later old);
      steps = All-append (λ (step : List ℕ). IsStepOf out step) parts.later was.later
          (λ k d lt. step_of_part out (2 ∷ rest) _ piece (parts.steps k d lt)) was.steps;
    }
  ]
]

pub next_passed : (address n len : ℕ) (bytes piece : List ℕ) (old mid new : Sent)
    → PassesParts (2 ∷ address_bytes address ++ bytes) old mid → address + n ≤ 16777215 → piece ≡ part bytes n len
    → n + len ≤ length bytes → Passes (2 ∷ address_bytes (address + n) ++ piece) mid new
    → PassesParts (2 ∷ address_bytes address ++ bytes) old new
next_passed address n len bytes piece old mid new was below is within passes =
    then_part (2 ∷ address_bytes address ++ bytes) (address_bytes (address + n) ++ piece) old mid new was
    (part_of address n len bytes piece below is within) passes

pub first_passed : (address len : ℕ) (bytes piece : List ℕ) (old new : Sent) → address ≤ 16777215
    → piece ≡ part bytes 0 len → len ≤ length bytes → Passes (2 ∷ address_bytes address ++ piece) old new
    → PassesParts (2 ∷ address_bytes address ++ bytes) old new
first_passed address len bytes piece old new below is within passes =
    let from : address ≡ address + 0 = omega arith in
    next_passed address 0 len bytes piece old old new (none_passed _ old refl) (omega (arith, below)) is
    (omega (arith, within))
    (subst (λ (k : ℕ). Passes (2 ∷ address_bytes k ++ piece) old new) from passes)

pub program_passed : (out bytes : List ℕ) (address : ℕ) (old new : Sent) → begins_program out ≡ true
    → 4 ≤ length out → address ≡ address_in out → address ≤ 16777215 → bytes ≡ drop 4 out
    → PassesParts (2 ∷ address_bytes address ++ bytes) old new → PassesParts out old new
program_passed [] bytes address old new program long is below rest parts = absurd (omega (arith, long))
program_passed (opcode ∷ []) bytes address old new program long is below rest parts = absurd (omega (arith, long))
program_passed (opcode ∷ x ∷ []) bytes address old new program long is below rest parts = absurd (omega (arith, long))
program_passed (opcode ∷ x ∷ y ∷ []) bytes address old new program long is below rest parts =
    absurd (omega (arith, long))
program_passed (opcode ∷ x ∷ y ∷ z ∷ all) bytes address old new program long is below rest parts =
    let same : IsProgramPart (opcode ∷ x ∷ y ∷ z ∷ all) (2 ∷ address_bytes address ++ bytes) = record {
      program = refl;
      bytes = λ a byte at.
          ap (λ (b : Bool). if b then byte_from (65536 * x + 256 * y + z) all a else None) program
          ∙ ap (λ (xs : List ℕ). byte_from (65536 * x + 256 * y + z) xs a) (sym rest)
          ∙ ap (λ (k : ℕ). byte_from k bytes a) (sym (whole_address address below ∙ is)) ∙ at;
    } in record {
      program = program;
      later = parts.later;
      is = parts.is;
      steps = λ k d lt.
          step_of_part (opcode ∷ x ∷ y ∷ z ∷ all) (2 ∷ address_bytes address ++ bytes) _ same (parts.steps k d lt);
    }
