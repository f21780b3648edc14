use Rattle.std.proofs.Common.{◌≡◌, ℕ, ◌+◌, ◌-◌, ◌*◌, ◌≤◌, List, ◌++◌, length, take, drop, refl, sym, ap, ◌∙◌}
use Rattle.std.proofs.Common.{append_assoc, arith, inr}
use Rattle.std.proofs.lemmas.List.{take-append-drop, length-append, length-drop, length-take, take_at, drop_at}
use Rattle.std.proofs.lemmas.List.{get_or-append-add}
use Rattle.sha2.specs.Sha256.{sha256}
use Rattle.nor_journal.specs.declared.fault.JournalFault.{JournalFault}
use Rattle.nor_journal.specs.declared.head.Head.{Head}
use Rattle.nor_journal.specs.Text.{Content, IsContent, head, front, body, text, end_mark}
use Rattle.nor_journal.specs.Fault.{FaultAfterFront, NextFault, EndFault}
use Rattle.nor_journal.specs.Reading.{with_header, content_at, IsHeader, HasRecords}
use Rattle.nor_journal.proofs.SectorRecords.{IsBytes, records_text-sectors_in, with_mark}
use Rattle.nor_journal.proofs.OneForm.{length-end_mark}

IsBytes-rest : (before rest bytes : List ℕ) → bytes ≡ before ++ rest → IsBytes bytes → IsBytes rest
IsBytes-rest before rest bytes split fits i =
    rw (← get_or-append-add before rest i 0, ← split) (fits (length before + i))

pub is_content : (h : Head) (records : List ℕ) (k : ℕ) → IsHeader h → HasRecords h records k
    → IsContent (content_at h k records)
is_content h records k is has =
    record { id = is.id; unique = is.unique; status = is.status; size = is.size; saved = has.rising }

module _ {h : Head} {bytes records : List ℕ} {k : ℕ} (split : bytes ≡ head (with_header h) ++ records)
    (fits : IsBytes bytes) (has : HasRecords h records k) where
  abbrev content : Content
  content = content_at h k records

  abbrev mark : ℕ
  mark = length bytes - length records + 4100 * k

  front_splits : bytes ≡ front content ++ drop (4100 * k) records
  unfolding front head
  front_splits =
      let read = records_text-sectors_in k records (IsBytes-rest (head (with_header h)) records bytes split fits)
      has.within in
      split ∙ rw (
        read,
        append_assoc (head content) (take (4100 * k) records) (drop (4100 * k) records),
        take-append-drop (4100 * k) records,
      ) refl

  length-front : length (front content) ≡ mark
  length-front = omega (
    arith,
    ap length split,
    ap length front_splits,
    length-append (head (with_header h)) records,
    length-append (front content) (drop (4100 * k) records),
    length-drop (4100 * k) records,
  )

  before_mark : take mark bytes ≡ front content
  before_mark = ap (take mark) front_splits ∙ take_at _ _ _ length-front

  pub from_mark : drop mark bytes ≡ drop (4100 * k) records
  from_mark = ap (drop mark) front_splits ∙ drop_at _ _ _ length-front

  pub mark_within : take 4 (drop (4100 * k) records) ≡ end_mark → mark + 4 ≤ length bytes
  mark_within ends = omega (
    arith,
    ap length (ap (take 4) from_mark ∙ ends),
    length-end_mark,
    length-take 4 (drop mark bytes),
    length-drop mark bytes,
  )

  pub next_fault : (fault : JournalFault) → IsHeader h → NextFault content (drop (4100 * k) records) fault
      → FaultAfterFront bytes fault
  next_fault fault is found = record {
    content = content;
    is_content = is_content h records k is has;
    rest = drop (4100 * k) records;
    split = front_splits;
    next = found;
  }

  pub end_fault : (fault : JournalFault) → IsHeader h → EndFault (take mark bytes) (drop mark bytes) fault
      → FaultAfterFront bytes fault
  end_fault fault is found = next_fault fault is (inr (rw (before_mark, from_mark) at found))

  pub is_text : take 4 (drop (4100 * k) records) ≡ end_mark → drop (mark + 4) bytes ≡ sha256 (take (mark + 4) bytes)
      → bytes ≡ text content
  unfolding text body
  is_text ends digest =
      let whole : take (mark + 4) bytes ≡ front content ++ end_mark =
      with_mark mark bytes (ap (take 4) from_mark ∙ ends) ∙ ap (λ (t : List ℕ). t ++ end_mark) before_mark in
      rw (← whole, ← digest) (sym (take-append-drop (mark + 4) bytes))
