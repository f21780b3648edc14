-- Lemmas on the image in a journal and on the encoding of the journal, which grow sector by sector.
use Rattle.std.proofs.Common.{◌≡◌, ◌+◌, ◌<◌, ◌≤◌, ◌∙◌, ◌++◌, ℕ, List, [], ◌∷◌, None, Some, add-one, ap, arith, length, refl, sym, take}
use Rattle.std.specs.Prelude.{slice_get}
use Rattle.std.proofs.lemmas.List.{append-nil, append_assoc, take_all, take_more}
use Rattle.std.proofs.lemmas.Option.{get_or_from_slice_get}
use Rattle.sha2.specs.Sha256.{sha256}
use Rattle.nor_journal.specs.Saved.{saved_in}
use Rattle.nor_journal.specs.Text.{Content, SavedSector, body, end_mark, front, head, record_text, records_text, text}
use Rattle.nor_journal.proofs.SectorRecords.{records_text-push}
use Rattle.board_files.specs.Images.{first_sectors}

pub first_none : (journal : Content) → [] ≡ first_sectors journal 0
unfolding first_sectors
first_none journal = refl

pub first_more : (journal : Content) (n : ℕ) (image bytes : List ℕ) → image ≡ first_sectors journal n
    → saved_in journal.saved n ≡ Some bytes → image ++ bytes ≡ first_sectors journal (n + 1)
unfolding first_sectors
first_more journal n image bytes is saved = rw (add-one n, is, saved) refl

pub first_same : (journal : Content) (n : ℕ) (image : List ℕ) → image ≡ first_sectors journal n
    → saved_in journal.saved n ≡ None → image ≡ first_sectors journal (n + 1)
unfolding first_sectors
first_same journal n image is none = rw (add-one n, is, none) (sym (append-nil (first_sectors journal n)))

records_none : records_text [] ≡ []
unfolding records_text
records_none = refl

pub encoded_none : (header : List ℕ) → header ≡ header ++ records_text []
encoded_none header = rw records_none (sym (append-nil header))

pub encoded_more : (header bytes : List ℕ) (saved : List SavedSector) (i : ℕ) (s : SavedSector) → i < length saved
    → slice_get saved i ≡ Some s → bytes ≡ header ++ records_text (take i saved)
    → bytes ++ record_text s ≡ header ++ records_text (take (i + 1) saved)
encoded_more header bytes saved i s inside at is =
    let here = take_more saved i s inside ∙ ap (λ t. take i saved ++ t ∷ []) (get_or_from_slice_get saved i s s at) in
    rw (is, here, records_text-push (take i saved) s) (append_assoc header (records_text (take i saved)) (record_text s))

pub encoded_all : (journal : Content) (bytes : List ℕ) (i : ℕ) → length journal.saved ≤ i
    → bytes ≡ head journal ++ records_text (take i journal.saved)
    → (bytes ++ end_mark) ++ sha256 (bytes ++ end_mark) ≡ text journal
unfolding text body front
encoded_all journal bytes i long is = rw (is, take_all i journal.saved long) refl
