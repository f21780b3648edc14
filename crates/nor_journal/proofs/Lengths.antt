use Rattle.std.proofs.Common.{◌≡◌, ℕ, ◌+◌, ◌*◌, List, [], ◌∷◌, ◌++◌, length, refl, arith}
use Rattle.std.proofs.lemmas.List.{length-append}
use Rattle.sha2.proofs.Facts256.{length-sha256}
use Rattle.nor_journal.specs.Text.{Content, IsContent, SavedSector, AreRising, text, body, front, head, end_mark, records_text, record_text}
use Rattle.nor_journal.specs.Fault.{header_length}
use Rattle.nor_journal.proofs.SectorRecords.{length-number_text}
use Rattle.nor_journal.proofs.OneForm.{length-head, length-end_mark}

long_records : (sectors least : ℕ) (saved : List SavedSector) → AreRising sectors least saved
    → length (records_text saved) ≡ 4100 * length saved
unfolding records_text record_text
long_records sectors least [] are = refl
long_records sectors least (s ∷ rest) are =
    simp (length-append, length-number_text)
    (omega (arith, are.0.whole, long_records sectors (s.number + 1) rest are.2))

pub long_text : (c : Content) → IsContent c → length (text c) ≡ header_length c.unique + 4100 * length c.saved + 36
unfolding text body front
long_text c is =
    let digest = length-sha256 ((head c ++ records_text c.saved) ++ end_mark) in
    simp (length-append, length-head c is, length-end_mark, digest)
    (omega (arith, long_records _ 0 c.saved is.saved))
