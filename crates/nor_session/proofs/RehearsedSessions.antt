use Rattle.std.proofs.Common.{◌≡◌, ◌≤◌, ◌+◌, ◌*◌, ◌++◌, ◌∙◌, ℕ, Bool, List, [], ◌∷◌, length, drop, true, false, refl, ap, sym, arith, inl, inr}
use Rattle.std.specs.Prelude.{max, Ok, Err, Result}
use Rattle.std.proofs.lemmas.Bool.{true≢false, cases_Bool}
use Rattle.nor_model.specs.Chip.{Chip, IsChip, IsSame}
use Rattle.nor_model.specs.Bus.{BusState, Allows}
use Rattle.nor_plan.specs.Content.{is_touched}
use Rattle.nor_journal.specs.Vault.{VaultState}
use Rattle.nor_request.specs.declared.request.Request.{Request}
use Rattle.nor_request.specs.declared.report.Report.{Report}
use Rattle.nor_request.specs.declared.refusal.Refusal.{Refusal}
use Rattle.nor_request.specs.declared.refusal.Refusal.TheVariants.{Vault, Stopped}
use Rattle.nor_request.specs.Refusal.{refusal_number}
use Rattle.nor_request.specs.Request.{wanted, scanned_sectors}
use Rattle.nor_scan.specs.SavedScan.{IsJournal}
use Rattle.nor_probe.specs.Known.{IsModelled}
use Rattle.nor_probe.proofs.Configs.{shown_config}
use Rattle.nor_session.specs.Bounds.{most_of}
use Rattle.nor_session.specs.Made.{AreFewestErases}
use Rattle.nor_scan.specs.Verdict.{IsAccepted}
use Rattle.nor_session.specs.Headline.{KeepsOriginal}
use Rattle.nor_session.specs.Session.{SessionAlways, SessionHonest, SessionModelled, SessionErrors, HonestErrors, IsDone, NamesAddress, IsSavedCode, IsWrittenCode, most_status_writes, SendsSaved, ProgramsTargets, WritesStatusAtMost}
use Rattle.nor_session.specs.Rehearsal.{IsRehearsedCode, ProgramsRehearsed, CanEnd, IsRehearsalRefusal, RehearsalErrors, first_allowance, least_needed, allowances_of, AllowsStops}
use Rattle.nor_session.specs.Rehearsing.{HasWantedBits, CanUndo, LeavesSession, RunsSession, RefusesSession, LeavesUndo, RefusesUndo}
use Rattle.nor_session.proofs.RestoredBytes.{untouched_unraised}
use Rattle.nor_session.proofs.RestoresOriginal.{restorable}
use Rattle.nor_session.proofs.Targeting.{none_sent, sends_then, sends_most, sends_wider}
use Rattle.nor_session.proofs.RehearsedRestores.{modelled_at, not_bus_error, allowed_first, allowed_after, same_nature, same_nature_then}

returned : (request : Request) (image : List ℕ) (old new : BusState) (before after : VaultState) (refusal : Refusal) → (refusal ≡ Stopped → ⊥)
    → SessionErrors request image old new before after refusal → RehearsalErrors old.further request image old.chip before after refusal
returned request image old new before after Vault never errors = errors
returned request image old new before after Stopped never errors = absurd (never refl)
returned request image old new before after _ never errors = errors

early : (request : Request) (image : List ℕ) (old new : BusState) (before after : VaultState) (refusal : Refusal) → RehearsalErrors old.further request image old.chip before after refusal
    → (refusal_number refusal ≤ 11) × (HonestErrors (most_of 4096) (λ refusal. refusal_number refusal ≤ 11) old new refusal → IsSame old.chip new.chip)
early request image old new before after Vault errors = (omega arith, λ same. same (omega arith))
early request image old new before after _ errors = search (arith, errors.holds)

can_end : (further : Bool) (request : Request) (image : List ℕ) (n : ℕ) (chip : Chip) → IsAccepted further request image chip → (erases : ℕ)
    → AreFewestErases chip.config chip.bytes (wanted request image chip) erases → least_needed request image chip erases ≤ n
    → CanEnd further request image n chip
can_end further request image n chip accepted erases fewest enough =
    record { accepted = accepted; erases = erases; fewest = fewest; enough = enough }

wanted_bits : (request : Request) (image : List ℕ) (mid new : BusState) (report : Report) → IsDone request image mid new report → HasWantedBits request.what mid.chip new.chip
wanted_bits request image mid new report done = record { code = done.code; is_wanted = done.is_wanted; kept = done.kept }

module _ {n : ℕ} {old mid : BusState} (allows : Allows n old mid) where
  modelled_mid : IsModelled old → IsModelled mid
  modelled_mid = modelled_at old mid allows.nature.honest allows.nature.further (ap (λ (chip : Chip). chip.config) allows.chip)

  targets_allowed : (request : Request) (image : List ℕ) (new : BusState) {vault : VaultState}
      → ProgramsTargets request image mid new vault → ProgramsTargets request image old new vault
  targets_allowed request image new targets = record {
    at_seal = targets.at_seal;
    before = rw allows.history at targets.before;
    after = targets.after;
    unsent = rw allows.history at targets.unsent;
    identity = targets.identity;
    part = rw allows.nature.further at targets.part;
    replied = rw allows.nature.further at targets.replied;
    saves = targets.saves;
    programs = rw allows.sent at targets.programs;
  }

  module _ (request : Request) (image : List ℕ) (new : BusState) {before after : VaultState} where
    pub session_leaves : {result : Result Report Refusal} → after.telling ≡ true → (mid.honest ≡ true → IsChip mid.chip)
        → KeepsOriginal mid new after → SessionAlways request image mid new before after result
        → (IsModelled mid → SessionModelled request image mid new before after result)
        → LeavesSession request image old new after
    session_leaves telling reaches keeps always promise = record {
      nature = same_nature_then (same_nature always.spends.nature) allows.nature;
      same = λ modelled steady_or_idle unsealed. let is = modelled_mid modelled in search (arith, allows.chip, allows.nature.steady);
      back = λ modelled sealed. let is = modelled_mid modelled in search (arith, ← allows.chip, restorable);
      accepted = λ modelled sealed.
          rw (allows.chip, allows.nature.further) at (((promise (modelled_mid modelled)).undo sealed).accepted);
      wears = λ modelled s other.
          let is = modelled_mid modelled in
          elim (cases_Bool after.sealed) [
            | inl sealed ↦
                ((promise is).undo sealed).changes.worn s
                (untouched_unraised mid.chip.bytes (wanted request image mid.chip) s (rw allows.chip other)) ∙ allows.worn s
            | inr unsealed ↦ ((always.only_reads unsealed).honest_reads is.honest).stays.worn s ∙ allows.worn s
          ];
      latch = λ modelled unsealed.
          let is = modelled_mid modelled in
          rw allows.chip at (((always.only_reads unsealed).honest_reads is.honest).latch);
      unsent = search arith;
      sends = λ sealed.
          let (journal, sent) = always.sends sealed telling in
          let IsCode = IsWrittenCode request.what journal.content in (
            journal,
            sends_then IsCode 0 1 journal.content old mid new
                (none_sent IsCode 0 journal.content old mid allows.sent) sent,
          );
      programs = λ sealed. targets_allowed request image new (always.programs sealed);
      writes = search arith;
    }

    pub session_ends : (report : Report) → SessionAlways request image mid new before after (Ok report)
        → (mid.honest ≡ true → SessionHonest request image mid new (Ok report))
        → (IsModelled mid → SessionModelled request image mid new before after (Ok report))
        → RunsSession request image n old new after true
    session_ends report always returned promise =
        let ends = always.ends in
        let done = λ (modelled : IsModelled old). (promise (modelled_mid modelled)).done in
        record {
          seals = λ ended. ends.sealed;
          can = λ modelled punctual ended.
              let is = modelled_mid modelled in let done = done modelled in
              let undone = (promise is).undo ends.sealed in
              let left = allows.left modelled.honest punctual in
              let sent = (returned is.honest).counted (allows.nature.punctual ∙ punctual) in
              let least = ends.bounded.least in let programs = done.reported.programs in
              let size = (shown_config mid.further mid.chip.config report.found is.genuine done.reported.shown).size in
              let scanned = ap (scanned_sectors request) size in
              rw (allows.chip, allows.nature.further) at
              (can_end mid.further request image n mid.chip undone.accepted report.erases done.reported.erases (omega arith));
          bytes = λ modelled ended. rw allows.chip at (done modelled).made.bytes;
          bits = λ modelled ended. rw allows.chip at (wanted_bits request image mid new report (done modelled));
          latch = λ modelled ended. rw allows.chip at (done modelled).made.latch;
          none_left = λ honest punctual never. absurd cc;
          below = λ modelled punctual never. absurd cc;
          seal = λ modelled punctual. record {
            enough = λ sealed.
                let is = modelled_mid modelled in
                let left = allows.left modelled.honest punctual in
                let spent = ((promise is).undo sealed).spent (allows.nature.punctual ∙ punctual) in
                rw (← allows.chip) (omega arith);
            below = λ unsealed. absurd (true≢false (sym ends.sealed ∙ unsealed));
          };
        }

    pub session_refuses : (refusal : Refusal) → SessionAlways request image mid new before after (Err refusal)
        → (mid.honest ≡ true → SessionHonest request image mid new (Err refusal))
        → (IsModelled mid → SessionModelled request image mid new before after (Err refusal))
        → (refusal ≡ Stopped → n ≡ most_of 4096) → RefusesSession request image old new before after refusal
    session_refuses refusal always honest_promise promise all = search (arith, early, not_bus_error, returned)

pub unlimited : (stops : List ℕ) → length stops ≡ 0 → first_allowance stops ≡ most_of 4096
unlimited [] none = refl
unlimited (first ∷ later) none = absurd (omega arith)

count_after_first : (stops : List ℕ) → length (drop 1 stops) + 1 ≡ max 1 (length stops)
count_after_first [] = refl
count_after_first (first ∷ later) = omega arith

pub session_sends : {request : Request} {image : List ℕ} {old new : BusState} {vault : VaultState} (stops : List ℕ)
    → LeavesSession request image old new vault → vault.sealed ≡ true → (journal : IsJournal vault.bytes)
    × SendsSaved (IsRehearsedCode request.what journal.content) (1 + max 1 (length stops)) journal.content old new
session_sends {request = request} {old = old} {new = new} stops leaves sealed =
    let (journal, sent) = leaves.sends sealed in
    let c = journal.content in (
      journal,
      sends_most (IsRehearsedCode request.what c) 1 (1 + max 1 (length stops)) c old new (omega arith)
          (sends_wider (IsWrittenCode request.what c) (IsRehearsedCode request.what c) 1 c old new (λ code is. inl is) sent),
    )

pub session_programs : {request : Request} {image : List ℕ} {old new : BusState} {vault : VaultState}
    → LeavesSession request image old new vault → vault.sealed ≡ true
    → ProgramsRehearsed request image old new vault
session_programs {new = new} leaves sealed =
    record { before = new; session = leaves.programs sealed; restores = λ journal a byte. inl refl }

pub session_tried : (stops : List ℕ) (old new : BusState) → new.allowances ≡ first_allowance stops ∷ old.allowances
    → AllowsStops stops 1 (1 + max 1 (length stops)) old new
session_tried stops old new first = record { calls = 1; some = omega arith; few = omega arith; is = allowed_first stops first }

module _ {request : Request} {image text later : List ℕ} {old mid new : BusState} {vault : VaultState}
    {result : Result ℕ Refusal} (session : LeavesSession request image old mid vault) (sealed : vault.sealed ≡ true)
    (is : text ≡ vault.bytes) (undone : LeavesUndo text later mid new result) where
  pub undo_premises : IsModelled old → IsModelled mid × CanUndo (is_touched old.chip.bytes (wanted request image old.chip)) old.chip text mid
  undo_premises modelled = search (arith, modelled_at)

  pub both_wear : IsModelled old → (s : ℕ) → is_touched old.chip.bytes (wanted request image old.chip) s ≡ false → new.worn s ≡ old.worn s
  both_wear modelled s other =
      let (then_modelled, can_undo) = undo_premises modelled in undone.wears then_modelled _ _ can_undo s other ∙ session.wears modelled s other

  pub both_send : (stops : List ℕ) → later ≡ drop 1 stops → (journal : IsJournal vault.bytes)
      × SendsSaved (IsRehearsedCode request.what journal.content) (1 + max 1 (length stops)) journal.content old new
  both_send stops later_is =
      let (journal, sent) = session.sends sealed in
      let c = journal.content in
      let first = sends_wider (IsWrittenCode request.what c) (IsRehearsedCode request.what c) 1 c old mid
      (λ code is. inl is) sent in
      let restores = (rw is at undone.sends) journal in
      let then = sends_wider (IsSavedCode c) (IsRehearsedCode request.what c) (length later + 1) c mid new
      (λ code is. inr is) restores in
      let count : length later + 1 ≡ max 1 (length stops)
      = ap (λ (l : List ℕ). length l + 1) later_is ∙ count_after_first stops in (
        journal,
        sends_then (IsRehearsedCode request.what c) 1 (max 1 (length stops)) c old mid new first
            (rw count at then),
      )

  pub both_program : ProgramsRehearsed request image old new vault
  both_program = record {
    before = mid;
    session = session.programs sealed;
    restores = rw is at undone.programs;
  }

  pub both_write : (stops : List ℕ) → later ≡ drop 1 stops
      → WritesStatusAtMost (most_status_writes request.what request.unlock + 2 * max 1 (length stops)) old new
  both_write stops later_is =
      let count = ap (λ (l : List ℕ). length l) later_is in let one = count_after_first stops in
      let before = session.writes in let after = undone.writes in
      omega (arith, count, one, before, after)

  module _ (stops : List ℕ) (later_is : later ≡ drop 1 stops)
      (first : mid.allowances ≡ first_allowance stops ∷ old.allowances) where
    pub both_allowed : (n : ℕ) → new.allowances ≡ allowances_of later n ++ mid.allowances
        → new.allowances ≡ allowances_of stops (1 + n) ++ old.allowances
    both_allowed n is = allowed_after stops n first (rw later_is at is)

    pub both_tried : AllowsStops later 0 (length later + 1) mid new → AllowsStops stops 1 (1 + max 1 (length stops)) old new
    both_tried tried =
        let count = ap (λ (l : List ℕ). length l) later_is in let one = count_after_first stops in let few = tried.few in
        record {
          calls = 1 + tried.calls;
          some = omega arith;
          few = omega (arith, count, one, few);
          is = both_allowed tried.calls tried.is;
        }

  pub undo_refused : (had : VaultState) (refusal : Refusal) → RefusesUndo text mid new refusal
      → IsRehearsalRefusal had vault refusal × NamesAddress vault refusal
  undo_refused had refusal refuses = (
    inr (sealed, refuses.answers (rw is (session.sends sealed).0)),
    record {
      early = λ unsealed. absurd (true≢false (sym sealed ∙ unsealed));
      late = λ again telling. rw is at refuses.names;
    },
  )
