use Rattle.std.proofs.Common.{◌≡◌, ◌/◌, ◌∙◌, ◌++◌, ℕ, Bool, true, List, [], length, ap, slice_index, sym, subst, arith}
use Rattle.std.proofs.lemmas.List.{nil_from_length, length-append}
use mathlib.Core.Path.{fun_ext}
use Rattle.nor_model.specs.History.{KeepsReplies, begins_with}
use Rattle.nor_model.specs.Sent.{Sent, sent_in}
use Rattle.nor_model.specs.Bus.{BusState, KeepsNature}
use Rattle.nor_model.proofs.Nature.{sent_in_both}
use Rattle.nor_model.proofs.Histories.{continues_then}
use Rattle.nor_driver.specs.OnlyReads.{OnlyReads}
use Rattle.nor_journal.specs.Saved.{JournalSaves}
use Rattle.nor_probe.specs.declared.table.ChipName.{ChipName}
use Rattle.nor_scan.specs.declared.identity.Identity.{Identity}
use Rattle.nor_scan.specs.Identity.{ReadsIdentity}
use Rattle.nor_driver.specs.ReadBack.{bytes_read}
use Rattle.nor_scan.specs.Saving.{header_found}
use Rattle.nor_scan.proofs.Replied.{identified_later}
use Rattle.nor_scan.specs.Scanning.{Scans}
use Rattle.nor_scan.specs.declared.scanning.Scanned.{Scanned}
use Rattle.nor_plan.specs.SectorSet.{has}
use Rattle.nor_apply.specs.declared.changes.Changes.{Changes}
use Rattle.nor_journal.specs.Vault.{VaultState}
use Rattle.nor_request.specs.declared.request.Request.{Request}
use Rattle.nor_session.specs.Changing.{LeavesChange}
use Rattle.nor_session.specs.Session.{IsJournalOfReplies, IsTargetRead, ProgramsTargets, touched_for}
use Rattle.nor_session.proofs.Targeting.{change_programs}
use Rattle.std.specs.Prelude.{Option}

none_before : {X : Type 0} (xs ys : List X) → xs ++ ys ≡ ys → xs ≡ []
none_before xs ys same = nil_from_length xs (omega (arith, length-append xs ys, ap length same))

pub unsent_history : {most : ℕ} {old new : BusState} → OnlyReads most old new
    → sent_in new.history ≡ sent_in old.history
unsent_history {old = old} only_reads =
    let adds = only_reads.nature.adds_sent in
    let none = none_before (sent_in adds.later) old.sent (sym adds.sent ∙ only_reads.sent) in
    ap sent_in adds.is ∙ sent_in_both adds.later old.history ∙ ap (λ (sent : Sent). sent ++ sent_in old.history) none

pub replied_saved : {named : Option ChipName} {identity : Identity} {m n : ℕ} {old opened at_seal new : BusState}
    {sectors : ℕ → Bool} {bytes : List ℕ} → OnlyReads m old opened → ReadsIdentity named old opened identity
    → OnlyReads n opened at_seal → KeepsReplies (begins_with 0x03) opened.history at_seal.history
    → JournalSaves (header_found identity) (bytes_read at_seal.history) sectors bytes → KeepsNature at_seal new
    → IsJournalOfReplies old new bytes
replied_saved {identity = identity} {at_seal = at_seal} {sectors = sectors} identifies opens scans keeps saves later = record {
  at_seal = at_seal.history;
  before = continues_then identifies.nature.history scans.nature.history;
  unsent = unsent_history scans ∙ unsent_history identifies;
  after = later.history;
  identity = identity;
  part = opens.part;
  replied = identified_later scans.nature.history keeps opens.replied;
  sectors = sectors;
  saves = saves;
}

pub programs_targets : {named : Option ChipName} {identity : Identity} {m n : ℕ} {old opened at_seal new : BusState}
    {request : Request} {image image' : List ℕ} {kept : Scanned} {changes : Changes} {vault : VaultState}
    → OnlyReads m old opened → ReadsIdentity named old opened identity → OnlyReads n opened at_seal
    → KeepsReplies (begins_with 0x03) opened.history at_seal.history
    → Scans request identity.found.size image image' opened at_seal kept
    → ((s : ℕ) → has changes.touched s ≡ has kept.touched s)
    → (vault.telling ≡ true
    → JournalSaves (header_found identity) (bytes_read at_seal.history) (has kept.touched) vault.bytes)
    → LeavesChange changes (λ a. slice_index image' a) at_seal new → ProgramsTargets request image old new vault
programs_targets {identity = identity} {old = old} {at_seal = at_seal} {request = request} {image = image} {kept =
    kept} {vault = vault} identifies opens reads keeps scans same saves leaves =
    let read = bytes_read at_seal.history in
    let touched : (s : ℕ) → has kept.touched s ≡ touched_for request image identity.found.size read s = λ s.
    scans.replied.touched s in
    record {
      at_seal = at_seal.history;
      before = continues_then identifies.nature.history reads.nature.history;
      after = leaves.spends.nature.history;
      unsent = unsent_history reads ∙ unsent_history identifies;
      identity = identity;
      part = opens.part;
      replied = identified_later reads.nature.history keeps opens.replied;
      saves = λ telling.
          subst (λ (sectors : ℕ → Bool). JournalSaves (header_found identity) read sectors vault.bytes)
          (fun_ext touched) (saves telling);
      programs = change_programs old (reads.sent ∙ identifies.sent) leaves
          (IsTargetRead request image identity.found.size read)
          (λ a hit.
          let is = sym (same (a / 4096)) ∙ hit in (sym (touched (a / 4096)) ∙ is, scans.filled a is));
    }
