use Rattle.std.proofs.Common.{◌≡◌, ℕ, ◌/◌, List, [], ◌++◌, length, take, refl, sym, ap, ◌∙◌, append_assoc, arith}
use Rattle.std.specs.Prelude.{true, Some, Result, Ok, Err, OnOk, OnErr}
use Rattle.std.specs.Io.{StartsWith}
use Rattle.std.proofs.Math.Seq.{take-append-add}
use Rattle.std.proofs.lemmas.List.{length-append, length-take, take_min, take-append-le, append-nil}
use Rattle.sha2.specs.Sha256.{sha256}
use Rattle.nor_journal.specs.declared.vault.VaultFault.{VaultFault}
use Rattle.nor_journal.specs.Vault.{VaultState, Took, PutRefused, Seals, HoldsPrefix}
use Rattle.nor_journal.specs.Text.{SavedSector, Content, IsContent, MayFollow, next_number, head, record_text}
use Rattle.nor_journal.specs.Text.{records_text, end_mark, front, body, text, empty_content, with_sector}
use Rattle.nor_journal.proofs.SectorRecords.{AreRising-push, records_text-push}

pub front-empty_content : (id unique status : List ℕ) (size : ℕ)
    → front (empty_content id (Some unique) status size) ≡ head (empty_content id (Some unique) status size)
unfolding front records_text
front-empty_content id unique status size = append-nil _

pub front-with_sector : (c : Content) (number : ℕ) (bytes : List ℕ)
    → front (with_sector c number bytes) ≡ front c ++ record_text (record { number = number; bytes = bytes })
unfolding front head
front-with_sector c number bytes =
    let added : SavedSector = record { number = number; bytes = bytes } in
    ap (λ (t : List ℕ). head c ++ t) (records_text-push c.saved added)
    ∙ sym (append_assoc (head c) (records_text c.saved) (record_text added))

pub IsContent-with_sector : (c : Content) (number : ℕ) (bytes : List ℕ) → IsContent c → MayFollow c number
    → length bytes ≡ 4096 → IsContent (with_sector c number bytes)
unfolding next_number
IsContent-with_sector c number bytes is follows whole = record {
  id = is.id;
  unique = is.unique;
  status = is.status;
  size = is.size;
  saved = AreRising-push (c.size / 4096) 0 c.saved _ is.saved
      (record { place = follows.place; whole = whole }) follows.rises;
}

pub text_is : (c : Content) → (front c ++ end_mark) ++ sha256 (front c ++ end_mark) ≡ text c
unfolding text body
text_is c = refl

pub begins_longer : (whole following bytes : List ℕ) → StartsWith whole bytes → StartsWith (whole ++ following) bytes
begins_longer whole following bytes begins =
    take-append-le (length bytes) whole following (omega (arith, ap length begins, length-take (length bytes) whole))
    ∙ begins

abbrev pub Holds : VaultState → List ℕ → Type 0
Holds vault bytes = vault.telling ≡ true → vault.bytes ≡ bytes

took_more : (old new : VaultState) (before piece : List ℕ) → Holds old before → Took old piece new
    → Holds new (before ++ piece)
took_more old new before piece held took faithful =
    let before_faithful = sym took.telling ∙ faithful in rw (took.bytes before_faithful, held before_faithful) refl

pub after_refused : (old new : VaultState) (before piece : List ℕ) (kept : ℕ) → Holds old before
    → PutRefused old piece kept new → HoldsPrefix new (before ++ piece)
after_refused old new before piece kept held refused faithful =
    let before_faithful = sym refused.refused.telling ∙ faithful in
    rw (refused.bytes before_faithful, held before_faithful)
    (rw (length-append before (take kept piece), take-append-add, length-take kept piece, take_min) refl)

pub err_any : {T E P : Type 0} (r : Result T E) → P → OnErr r P
err_any (Ok value) holds = tt
err_any (Err error) holds = holds

pub begins_mark : (old new : VaultState) (c : Content) (kept : ℕ) → Holds old (front c)
    → PutRefused old end_mark kept new → HoldsPrefix new (text c)
begins_mark old new c kept held refused = rw (← text_is c) (λ faithful.
    begins_longer (front c ++ end_mark) _ new.bytes (after_refused old new (front c) end_mark kept held refused faithful))

module _ (s0 s1 new : VaultState) (c : Content) (digest : List ℕ) (held : Holds s0 (front c))
    (marked : Took s0 end_mark s1) (is : digest ≡ sha256 (front c ++ end_mark)) where
  whole : (front c ++ end_mark) ++ digest ≡ text c
  whole = rw is (text_is c)

  pub took_end : Took s1 digest new → Holds new (text c)
  took_end digested = rw (← whole) (took_more s1 new _ digest (took_more s0 s1 (front c) end_mark held marked) digested)

  pub begins_digest : (kept : ℕ) → PutRefused s1 digest kept new → HoldsPrefix new (text c)
  begins_digest kept refused =
      rw (← whole) (after_refused s1 new _ digest kept (took_more s0 s1 (front c) end_mark held marked) refused)

pub seals : {T : Type 0} (old new : VaultState) (r : Result T VaultFault) (c : Content) → Holds old (text c)
    → Seals old r new → OnOk r (Holds new (text c)) × OnErr r (HoldsPrefix new (text c))
seals old new (Ok x) c held sealed =
    (λ faithful. let before_faithful = sym sealed.telling ∙ faithful in sealed.bytes before_faithful ∙ held before_faithful, tt)
seals old new (Err fault) c held refused =
    (tt, rw (append-nil (text c)) at (after_refused old new (text c) [] fault.kept held refused))
