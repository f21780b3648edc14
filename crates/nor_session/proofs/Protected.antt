-- The protection bits as they were last written or read, on every bus.
use Rattle.std.proofs.Common.{◌≡◌, ◌∙◌, ◌++◌, ℕ, ap, subst, refl}
use Rattle.std.specs.Prelude.{List, Some}
use Rattle.nor_model.specs.Chip.{kept_in}
use Rattle.nor_model.specs.Guard.{code_of}
use Rattle.nor_model.specs.Status.{bytes_of}
use Rattle.nor_model.specs.Sent.{Sent}
use Rattle.nor_model.specs.Bus.{BusState, KeepsNature}
use Rattle.nor_model.proofs.Histories.{continues_then}
use Rattle.nor_driver.specs.OnlyReads.{OnlyReads}
use Rattle.nor_driver.specs.StatusWrites.{last_code, EndsWithCode}
use Rattle.nor_journal.specs.Text.{Content}
use Rattle.nor_scan.specs.declared.identity.Identity.{Identity}
use Rattle.nor_scan.specs.Identity.{most_identity, status_read}
use Rattle.nor_scan.specs.Replied.{IsIdentifiedBy}
use Rattle.nor_session.specs.declared.prepare_restore.PreparedRestore.{PreparedRestore}
use Rattle.nor_session.specs.Session.{EndsProtected}
use Rattle.nor_session.specs.PrepareRestore.{HasStatusRead}

pub coded_later : {read code : ℕ} {old mid new : BusState} → EndsWithCode read code old mid → new.sent ≡ mid.sent
    → EndsWithCode read code old new
coded_later ends unsent = record { later = ends.later; added = unsent ∙ ends.added; last = ends.last }

coded_since : {read read' code : ℕ} {old mid new : BusState} → mid.sent ≡ old.sent → read ≡ read'
    → EndsWithCode read code mid new → EndsWithCode read' code old new
coded_since {code = code} same is ends = record {
  later = ends.later;
  added = ends.added ∙ ap (λ (sent : Sent). ends.later ++ sent) same;
  last = subst (λ (n : ℕ). last_code (Some n) ends.later ≡ Some code) is ends.last;
}

pub session_protects : (IsTarget : Identity → ℕ → Type 0) (identity : Identity) (code : ℕ) {bytes : List ℕ} {more : ℕ}
    {old opened mid new : BusState} → OnlyReads most_identity old opened → OnlyReads more opened mid
    → KeepsNature mid new → IsIdentifiedBy old.further opened.history identity → bytes ≡ status_read identity
    → IsTarget identity code → EndsWithCode (code_of (kept_in bytes)) code mid new
    → EndsProtected IsTarget old new identity.found
session_protects IsTarget identity code {opened = opened} identifies scans later replied status is ends =
    record {
      identified = opened;
      only_reads = identifies;
      after = continues_then scans.nature.history later.history;
      identity = identity;
      same = refl;
      replied = replied;
      code = code;
      is_target = is;
      ends = coded_since (scans.sent ∙ identifies.sent) (ap (λ (read : List ℕ). code_of (kept_in read)) status) ends;
    }

pub restore_protects : (journal : Content) (prepared : PreparedRestore) {old mid new : BusState}
    → HasStatusRead old mid prepared → mid.sent ≡ old.sent → KeepsNature mid new
    → prepared.changes.code ≡ code_of (kept_in journal.status)
    → EndsWithCode (code_of (kept_in (bytes_of prepared.changes.status))) prepared.changes.code mid new
    → EndsProtected (λ identity code. code ≡ code_of (kept_in journal.status)) old new prepared.found
restore_protects journal prepared read unsent later is ends = record {
  identified = read.identified;
  only_reads = read.only_reads;
  after = continues_then read.after later.history;
  identity = read.identity;
  same = read.same;
  replied = read.replied;
  code = prepared.changes.code;
  is_target = is;
  ends = coded_since unsent (ap (λ (bytes : List ℕ). code_of (kept_in bytes)) read.status) ends;
}
