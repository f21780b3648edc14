use Rattle.std.proofs.Common.{◌≡◌, ◌≢◌, ◌∙◌, ℕ, ◌+◌, ◌-◌, ◌≤◌, List, [], ◌∷◌, ◌++◌, length, get_or, take, drop, refl}
use Rattle.std.proofs.Common.{sym, ap, arith, Option, Some, None, Result, Ok, Err}
use Rattle.std.specs.Prelude.{IfSome, MatchResult}
use Rattle.std.specs.Array.{IsWholeChunk}
use Rattle.std.specs.Option.{MatchOption}
use Rattle.std.specs.Result.{result_ok}
use Rattle.std.proofs.lemmas.List.{take-append-drop, append_assoc, take_at, drop_at, length-drop, length-take}
use Rattle.std.proofs.lemmas.List.{get_or-drop}
use borrow.Rule.Slice.PartMut.{put_mid, same_len_mid}
use Rattle.nor_journal.specs.Number.{number_text, number_at}
use Rattle.nor_journal.specs.Text.{magic, head}
use Rattle.nor_journal.specs.Fault.{header_length}
use Rattle.nor_journal.proofs.SectorRecords.{IsBytes, IsBytes-drop, number_text-number_at}
use Rattle.std.proofs.Math.Seq.{take-add}
use Rattle.std.proofs.lemmas.Grind.{elements}

two_first : (bytes : List ℕ) → 2 ≤ length bytes → take 2 bytes ≡ get_or bytes 0 0 ∷ get_or bytes 1 0 ∷ []
two_first bytes long = grind (arith, elements)

three_first : (bytes : List ℕ) → 3 ≤ length bytes → take 3 bytes ≡ get_or bytes 0 0 ∷ get_or bytes 1 0 ∷ get_or bytes 2 0 ∷ []
three_first bytes long = grind (arith, elements)

said : (k : ℕ) (bytes magic unique status : List ℕ) → IsBytes bytes → 17 + k ≤ length bytes → take 8 bytes ≡ magic
    → take k (drop 11 bytes) ≡ unique → take 2 (drop (11 + k) bytes) ≡ status
    → bytes ≡ ((((magic ++ get_or bytes 8 0 ∷ get_or bytes 9 0 ∷ get_or bytes 10 0 ∷ []) ++ unique) ++ status)
    ++ number_text (number_at (drop (11 + k + 2) bytes))) ++ drop (11 + k + 2 + 4) bytes
said k bytes magic unique status fits long begins is two =
    let id = simp get_or-drop at (three_first (drop 8 bytes) (omega (arith, length-drop 8 bytes))) in
    let rest = drop (11 + k + 2) bytes in
    let number = number_text-number_at rest (IsBytes-drop (11 + k + 2) bytes fits)
    (omega (arith, length-drop (11 + k + 2) bytes)) in
    rw (← begins, ← is, ← two, ← id, number, ← take-add 8 3 bytes, ← take-add 11 k bytes)
    (rw (← take-add (11 + k) 2 bytes, ← take-add (11 + k + 2) 4 bytes) (sym (take-append-drop (11 + k + 2 + 4) bytes)))

-- Holds if `unique` is `part` and has eight bytes, or `unique` is None and `part` doesn't have eight bytes.
abbrev IsUnique : (part : List ℕ) → Option (List ℕ) → Type 0
IsUnique part unique = MatchOption unique (length part ≢ 8) (λ u. (part ≡ u) × (length u ≡ 8))

pub unique_read : {E : Type 0} (part : List ℕ) (r : Result (List ℕ) E) → MatchResult r (λ u. IsWholeChunk part u 8) (λ _. length part ≢ 8) → IsUnique part (result_ok r)
unique_read part (Ok u) whole = (sym whole.same, ap length whole.same ∙ whole.long)
unique_read part (Err e) other = other

pub splits : (returned : Option (List ℕ)) (len : ℕ) (bytes : List ℕ) (unique : Option (List ℕ)) → IsBytes bytes
    → take 8 bytes ≡ magic returned → len ≡ header_length returned → len ≤ length bytes
    → IsUnique (take (len - 6 - 11) (drop 11 bytes)) unique
    → IfSome unique (λ u. length u ≡ 8)
    × (bytes
    ≡ head
    (record {
      id = get_or bytes 8 0 ∷ get_or bytes 9 0 ∷ get_or bytes 10 0 ∷ [];
      unique = unique;
      status = get_or bytes (len - 6) 0 ∷ get_or bytes (len - 5) 0 ∷ [];
      size = number_at (drop (len - 4) bytes);
      saved = [];
    })
    ++ drop len bytes)
unfolding head
splits None len bytes None fits begins is long read =
    let two = simp get_or-drop at (two_first (drop 11 bytes) (omega (arith, length-drop 11 bytes))) in
    (tt, rw is (said 0 bytes (magic None) [] _ fits (omega arith) begins refl two))
splits None len bytes (Some u) fits begins is long read =
    absurd (omega (arith, is, read.1, ap length read.0, length-take (len - 6 - 11) (drop 11 bytes)))
splits (Some v) len bytes None fits begins is long read =
    absurd (read (omega (arith, is, long, length-take (len - 6 - 11) (drop 11 bytes), length-drop 11 bytes)))
splits (Some v) len bytes (Some u) fits begins is long read =
    let two = simp get_or-drop at (two_first (drop 19 bytes) (omega (arith, length-drop 19 bytes))) in
    (read.1, rw is (said 8 bytes (magic (Some v)) u _ fits (omega arith) begins (rw is at read.0) two))

pub length-put : (n k : ℕ) (bytes part : List ℕ) → length bytes ≡ 25 → length part ≡ k → n + k ≤ 25
    → length (put_mid n k bytes part) ≡ 25
length-put n k bytes part long many within =
    same_len_mid n k bytes part (omega (arith, length-take k (drop n bytes), length-drop n bytes)) ∙ long

pub put_after : (n k : ℕ) (before rest part : List ℕ) → length before ≡ n
    → put_mid n k (before ++ rest) part ≡ (before ++ part) ++ drop k rest
put_after n k before rest part len =
    rw (take_at before rest n len, drop_at before rest n len) (sym (append_assoc before part (drop k rest)))
