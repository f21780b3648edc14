-- Lemmas: if a status register was read twice, `was_read_twice` holds, and still holds after one more transaction.
use Rattle.std.proofs.Common.{◌≡◌, ◌∙◌, ℕ, Bool, true, false, List, [], ◌∷◌, Option, None, Some, refl, ap, sym, arith, eq-eqb}
use Rattle.std.specs.Prelude.{◌||◌, ◌&&◌, ◌==◌}
use Rattle.std.specs.Option.{ForSome}
use Rattle.std.proofs.lemmas.Bool.{false≢true}
use Rattle.nor_model.specs.Exchange.{Exchange}
use Rattle.nor_buses.specs.KnownStatus.{KeepsBits}
use Rattle.nor_buses.specs.Twice.{begins_read}
use Rattle.nor_buses.specs.StatusRead.{ChangesAsAllowed, IsReadTwice, KeepsId, begins_confirmed, confirmed, has_read, has_read_id, is_known, pair, second, was_read_twice}

or_true : (a : Bool) → (a || true) ≡ true
or_true true = refl
or_true false = refl

pub read_grown : (opcode byte : ℕ) (more : Exchange) (old : List Exchange)
    → was_read_twice opcode byte old ≡ true → was_read_twice opcode byte (more ∷ old) ≡ true
read_grown opcode byte more [] read = absurd (false≢true read)
read_grown opcode byte more (d ∷ []) read = absurd (false≢true read)
read_grown opcode byte more (d ∷ c ∷ []) read = absurd (false≢true read)
read_grown opcode byte more (d ∷ c ∷ b ∷ earlier) read =
    ap (λ (x : Bool). (has_read_id more && has_read opcode byte d && has_read_id c && has_read opcode byte b) || x) read
    ∙ or_true _

pub still_read : (known : Option ℕ) (opcode : ℕ) (more : Exchange) (old new : List Exchange) → new ≡ more ∷ old
    → ForSome known (λ byte. was_read_twice opcode byte old ≡ true)
    → ForSome known (λ byte. was_read_twice opcode byte new ≡ true)
still_read known opcode more old new grows read =
    λ byte is. ap (λ (h : List Exchange). was_read_twice opcode byte h) grows ∙ read_grown opcode byte more old (read byte is)

byte_is : (byte : ℕ) → (byte == byte) ≡ true
byte_is byte = eq-eqb byte byte refl

pub pair_read : (byte : ℕ) (known : Option (List ℕ)) (old new : List Exchange) → IsReadTwice (pair byte) known old new
    → was_read_twice 5 byte new ≡ true
pair_read byte None old new twice = absurd (false≢true twice.knows)
pair_read byte (Some id) old new twice =
    ap (λ (h : List Exchange). was_read_twice 5 byte h) twice.is ∙ rw byte_is refl

pub second_read : (byte : ℕ) (known : Option (List ℕ)) (old new : List Exchange)
    → IsReadTwice (second byte) known old new → was_read_twice 53 byte new ≡ true
second_read byte None old new twice = absurd (false≢true twice.knows)
second_read byte (Some id) old new twice =
    ap (λ (h : List Exchange). was_read_twice 53 byte h) twice.is ∙ rw byte_is refl

pub still_known : (read : Exchange) (known later : Option (List ℕ)) (old new : List Exchange)
    → IsReadTwice read known old new → KeepsId known later → IsReadTwice read later old new
still_known read known later old new twice keeps =
    let same = keeps.same twice.knows in record {
      knows = ap is_known same ∙ twice.knows;
      is = twice.is ∙ sym (ap (λ (k : Option (List ℕ)). confirmed k (read ∷ confirmed k (read ∷ old))) same);
    }

pub allowed_by : (locks : Bool) (one two one_known two_known : ℕ) → KeepsBits locks one two one_known two_known
    → ChangesAsAllowed locks one two one_known two_known
allowed_by true one two one_known two_known keeps = record { protection = keeps.protection; whole = keeps.whole }
allowed_by false one two one_known two_known keeps = record {
  srp0 = keeps.srp0;
  locks = grind (arith, keeps.low);
  low = grind (arith, keeps.low);
}

or_more : (a b c d : Bool) → (a || b || c) ≡ true → (a || d || b || c) ≡ true
or_more true b c d is = refl
or_more false b c true is = refl
or_more false b c false is = is

pub confirmed_reads : (out : List ℕ) → begins_confirmed out ≡ true → begins_read out ≡ true
confirmed_reads [] is = is
confirmed_reads (opcode ∷ rest) is = or_more (opcode == 0x03) (opcode == 0x5A) (opcode == 0x4B) (opcode == 0x9F) is
