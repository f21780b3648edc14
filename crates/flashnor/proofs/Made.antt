-- The lengths that a file of the chip has while the program overwrites it in place or creates it.
use Rattle.std.proofs.Common.{◌≡◌, ◌+◌, ◌++◌, ℕ, List, [], arith, length}
use Rattle.std.proofs.lemmas.List.{append-nil, length-append, length-drop, length-replicate, length-take, take_all}
use Rattle.std.proofs.Math.Seq.{take-append_seam}
use Rattle.nor_files.specs.Calls.{with_length, written_over}

pub with_its_length : (len : ℕ) (has : List ℕ) → length has ≡ len → with_length len has ≡ has
with_its_length len has is = grind (arith, take_all, append-nil)

pub cut_to : (bytes rest : List ℕ) → with_length (length bytes) (bytes ++ rest) ≡ bytes
cut_to bytes rest = grind (arith, length-append, take-append_seam, append-nil)

pub length-sized : (len : ℕ) (has : List ℕ) → length (with_length len has) ≡ len
length-sized len has = grind (arith, length-append, length-take, length-replicate)

pub length-filled : (bytes : List ℕ) → length (written_over bytes (with_length (length bytes + 1) [])) ≡ length bytes + 1
length-filled bytes = grind (arith, length-append, length-drop, length-sized)
