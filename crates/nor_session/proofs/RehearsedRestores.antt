use Rattle.std.proofs.Common.{◌≡◌, ◌<◌, ◌≤◌, ◌+◌, ◌∙◌, ℕ, zero, suc, Bool, List, [], ◌∷◌, ◌++◌, length, drop, slice_index, true, false, refl, ap, sym, add-one, one-add, arith, inl, inr}
use Rattle.std.specs.Prelude.{Ok, Err, Result, slice_index_or, if◌then◌else◌}
use Rattle.std.proofs.lemmas.Bool.{cases_eq}
use Rattle.std.proofs.lemmas.List.{get_or_past}
use Rattle.std.proofs.lemmas.Grind.{get_or_default_zero}
use Rattle.nor_model.specs.Chip.{Chip}
use Rattle.nor_model.specs.Bus.{BusState, SameNature, KeepsNature, Allows}
use Rattle.nor_journal.specs.Text.{Content, IsContent, SameHeader, text}
use Rattle.nor_journal.specs.declared.fault.JournalFault.{JournalFault}
use Rattle.nor_journal.specs.Saved.{Saves, JournalSaves}
use Rattle.nor_journal.proofs.Saves.{Saves-set}
use Rattle.nor_journal.proofs.OneForm.{is_read}
use Rattle.nor_probe.specs.Known.{IsModelled}
use Rattle.nor_journal.specs.Vault.{VaultState}
use Rattle.nor_request.specs.declared.request.Request.{Request}
use Rattle.nor_request.specs.declared.report.Report.{Report}
use Rattle.nor_request.specs.declared.refusal.Refusal.{Refusal}
use Rattle.nor_request.specs.declared.refusal.Refusal.TheVariants.{Stopped, Timeout, BadJournal}
use Rattle.nor_scan.specs.Saving.{header_of}
use Rattle.nor_session.specs.Bounds.{most_of}
use Rattle.nor_session.specs.Headline.{CanRestore, RestoresOriginal}
use Rattle.nor_session.specs.Restore.{IsSavedByte, RestoreAlways, RestoreHonest, RestoreModelled}
use Rattle.nor_session.specs.Session.{HonestErrors}
use Rattle.nor_session.specs.Rehearsal.{IsNoBusError, AllowsStops, first_allowance, allowances_of}
use Rattle.nor_session.specs.Rehearsing.{CanUndo, RunsSession, LeavesRestores, RunsRestore, RunsRestores, StopsRestores, Undoes, WearsSaved, SendsFromJournal, ProgramsFromJournal, RefusesUndo}
use Rattle.nor_session.proofs.Rescanned.{unraised_other}
use Rattle.nor_session.specs.Session.{IsSavedCode}
use Rattle.nor_session.proofs.Targeting.{none_sent, none_programmed, programs_then, sends_then, sends_most, none_written}
use Rattle.nor_session.proofs.RestoresOriginal.{can_restore_read}
use Rattle.nor_session.proofs.Naming.{saved_names}
use Rattle.nor_session.proofs.SavedBytes.{saved_room, saved_count}

pub allowed_then : (stops : List ℕ) (n : ℕ) (old : List ℕ) {allowance : ℕ} {now new : List ℕ}
    → allowance ≡ slice_index_or stops n (most_of 4096) → now ≡ allowances_of stops n ++ old → new ≡ allowance ∷ now
    → new ≡ allowances_of stops (n + 1) ++ old
allowed_then stops n old {allowance = allowance} is before by =
    rw add-one
    (by ∙ ap (λ (l : List ℕ). allowance ∷ l) before ∙ ap (λ (a : ℕ). a ∷ (allowances_of stops n ++ old)) is)

pub next_stop : (stops : List ℕ) (n : ℕ) → n < length stops → slice_index stops n ≡ slice_index_or stops n (most_of 4096)
next_stop stops n inside = sym (get_or_default_zero stops n (most_of 4096) inside)

pub last_bound : (stops : List ℕ) (n : ℕ) → length stops ≤ n → {allowance : ℕ} → allowance ≡ most_of 4096
    → allowance ≡ slice_index_or stops n (most_of 4096)
last_bound stops n past is = is ∙ sym (get_or_past stops n (most_of 4096) past)

pub allowed_first : (stops : List ℕ) {old new : List ℕ} → new ≡ first_allowance stops ∷ old
    → new ≡ allowances_of stops 1 ++ old
allowed_first [] is = is
allowed_first (first ∷ later) is = is

later_stop : (stops : List ℕ) (n : ℕ)
    → slice_index_or (drop 1 stops) n (most_of 4096) ≡ slice_index_or stops (suc n) (most_of 4096)
later_stop [] n = refl
later_stop (first ∷ later) n = refl

later_allowed : (stops : List ℕ) (n : ℕ) (old : List ℕ)
    → allowances_of (drop 1 stops) n ++ (first_allowance stops ∷ old) ≡ allowances_of stops (suc n) ++ old
later_allowed stops zero old = allowed_first stops refl
later_allowed stops (suc n) old =
    ap (λ (l : List ℕ). slice_index_or (drop 1 stops) n (most_of 4096) ∷ l) (later_allowed stops n old)
    ∙ ap (λ (a : ℕ). a ∷ (allowances_of stops (suc n) ++ old)) (later_stop stops n)

pub allowed_after : (stops : List ℕ) (n : ℕ) {old mid new : List ℕ} → mid ≡ first_allowance stops ∷ old
    → new ≡ allowances_of (drop 1 stops) n ++ mid → new ≡ allowances_of stops (1 + n) ++ old
allowed_after stops n {old = old} first later =
    rw one-add (later ∙ ap (λ (l : List ℕ). allowances_of (drop 1 stops) n ++ l) first ∙ later_allowed stops n old)

pub same_nature : {old new : BusState} → KeepsNature old new → SameNature old new
same_nature keeps =
    record {
      honest = keeps.honest;
      steady = keeps.steady;
      unlimited = keeps.unlimited;
      longer = keeps.longer;
      punctual = keeps.punctual;
      further = keeps.further;
      config = keeps.config;
    }

pub same_nature_then : {old mid new : BusState} → SameNature mid new → SameNature old mid → SameNature old new
same_nature_then later earlier =
    record {
      honest = later.honest ∙ earlier.honest;
      steady = later.steady ∙ earlier.steady;
      unlimited = later.unlimited ∙ earlier.unlimited;
      longer = later.longer ∙ earlier.longer;
      punctual = later.punctual ∙ earlier.punctual;
      further = later.further ∙ earlier.further;
      config = λ honest. later.config (earlier.honest ∙ honest) ∙ earlier.config honest;
    }

pub modelled_at : (old new : BusState) → new.honest ≡ old.honest → new.further ≡ old.further → new.chip.config ≡ old.chip.config → IsModelled old → IsModelled new
modelled_at old new honest further config modelled =
    record { honest = honest ∙ modelled.honest; genuine = rw (further, config) modelled.genuine }

allow_leaves : {n : ℕ} (journal : Content) (old new : BusState) → Allows n old new → LeavesRestores journal 0 old new
allow_leaves journal old new allows =
    search (arith, modelled_at, none_sent, none_programmed, none_written, allows.chip, allows.nature.steady)

pub restores_then : (journal : Content) (m n most : ℕ) (old mid new : BusState) → m + n ≤ most → LeavesRestores journal m old mid → LeavesRestores journal n mid new → LeavesRestores journal most old new
restores_then journal m n most old mid new fits before after =
    let both = sends_then (IsSavedCode journal) m n journal old mid new before.sends after.sends in
    let sends = sends_most (IsSavedCode journal) (m + n) most journal old new fits both in
    let programs = programs_then (IsSavedByte journal) old mid new before.programs after.programs in
    search (arith, same_nature_then)

pub not_bus_error : (most : ℕ) (IsEarly : Refusal → Type 0) (old new : BusState) (refusal : Refusal) → (refusal ≡ Stopped → ⊥)
    → HonestErrors most IsEarly old new refusal → IsNoBusError refusal
not_bus_error most IsEarly old new Stopped never errors = absurd (never refl)
not_bus_error most IsEarly old new (Timeout address) never errors = absurd errors
not_bus_error most IsEarly old new _ never errors = refl

module _ {n : ℕ} {journal : Content} {old mid new : BusState} (allows : Allows n old mid) where
  pub under_leaves : {result : Result Report Refusal} → (IsModelled mid → RestoresOriginal journal mid new result)
      → RestoreAlways journal mid new result → (IsModelled mid → RestoreModelled journal mid new result)
      → LeavesRestores journal 1 old new
  under_leaves gives always promise =
      restores_then journal 0 1 1 old mid new (omega arith) (allow_leaves journal old mid allows)
      (search (arith, modelled_at, unraised_other, same_nature))

  pub under_ends : (report : Report) → (IsModelled mid → RestoresOriginal journal mid new (Ok report))
      → RestoreAlways journal mid new (Ok report)
      → (mid.honest ≡ true → RestoreHonest journal mid new (Ok report))
      → (IsModelled mid → RestoreModelled journal mid new (Ok report)) → RunsRestore journal n old new true
  under_ends report gives always returned promise =
      let leaves = allow_leaves journal old mid allows in search (arith, allows.chip)

  pub under_refuses : (refusal : Refusal) → (IsModelled mid → RestoresOriginal journal mid new (Err refusal))
      → RestoreAlways journal mid new (Err refusal)
      → (mid.honest ≡ true → RestoreHonest journal mid new (Err refusal)) → (refusal ≡ Stopped → ⊥)
      → StopsRestores journal old new refusal
  under_refuses refusal gives always returned never =
      let leaves = allow_leaves journal old mid allows in search (arith, not_bus_error)

pub record AreStopped (journal : Content) (stops : List ℕ) (old now : BusState) (n : ℕ) : Type 0 where
  pub leaves : LeavesRestores journal n old now
  pub allowed : now.allowances ≡ allowances_of stops n ++ old.allowances
  pub stopped : IsModelled old → old.punctual ≡ true → (i : ℕ) → i < n
      → slice_index stops i < most_of (length journal.saved)
  pub latch : n ≡ 0 → now.chip.latch ≡ true → old.chip.latch ≡ true

module _ {journal : Content} {stops : List ℕ} {old now : BusState} {n : ℕ} (before : AreStopped journal stops old now n)
    (new : BusState) where
  pub leaves_more : {most : ℕ} → n + 1 ≤ most → LeavesRestores journal 1 now new → LeavesRestores journal most old new
  leaves_more fits leaves = restores_then journal n 1 _ old now new fits before.leaves leaves

  pub allowed_more : {allowance : ℕ} → allowance ≡ slice_index_or stops n (most_of 4096)
      → new.allowances ≡ allowance ∷ now.allowances → new.allowances ≡ allowances_of stops (n + 1) ++ old.allowances
  allowed_more is by = allowed_then stops n old.allowances is before.allowed by

  pub tried_more : n ≤ length stops → new.allowances ≡ allowances_of stops (n + 1) ++ old.allowances
      → AllowsStops stops 1 (length stops + 1) old new
  tried_more inside allowed = record { calls = n + 1; some = omega arith; few = omega (arith, inside); is = allowed }

  pub stopped_more : n < length stops → new.allowances ≡ slice_index stops n ∷ now.allowances
      → LeavesRestores journal 1 now new → RunsRestore journal (slice_index stops n) now new false
      → AreStopped journal stops old new (n + 1)
  stopped_more inside by leaves shows = record {
    leaves = leaves_more (omega arith) leaves;
    allowed = allowed_more (next_stop stops n inside) by;
    stopped = λ modelled punctual i below. elim (cases_eq i n) [
      | inl here ↦
          rw here (shows.below (before.leaves.modelled modelled).honest (before.leaves.nature.punctual ∙ punctual) refl)
      | inr other ↦ before.stopped modelled punctual i (omega arith)
    ];
    latch = λ none. absurd (omega arith);
  }

  pub ended_at : (restores : ℕ) → restores ≡ n + 1 → n < length stops
      → new.allowances ≡ slice_index stops n ∷ now.allowances
      → RunsRestore journal (slice_index stops n) now new true → RunsRestores journal stops old new restores
  ended_at restores is inside by shows =
      let allowed = rw (← is) at (allowed_more (next_stop stops n inside) by) in search arith

  pub ended_last : (restores : ℕ) {allowance : ℕ} → restores ≡ n + 1 → n ≡ length stops → allowance ≡ most_of 4096
      → new.allowances ≡ allowance ∷ now.allowances → RunsRestore journal allowance now new true
      → RunsRestores journal stops old new restores
  ended_last restores is past bound by shows =
      let allowed = rw (← is) at (allowed_more (last_bound stops n (omega (arith, past)) bound) by) in search arith

pub tried_less : {stops : List ℕ} {most : ℕ} {old new : BusState} → AllowsStops stops 1 most old new
    → AllowsStops stops 0 most old new
tried_less tried = record { calls = tried.calls; some = omega arith; few = tried.few; is = tried.is }

pub refuses_before : {journal : Content} {n : ℕ} {old mid new : BusState} (refusal : Refusal)
    → LeavesRestores journal n old mid → StopsRestores journal mid new refusal → StopsRestores journal old new refusal
refuses_before refusal leaves refuses = search arith

pub last_ends : {journal : Content} {now new : BusState} {most : ℕ} → most ≡ most_of 4096
    → RunsRestore journal most now new false → StopsRestores journal now new Stopped
last_ends {journal = journal} is shows = search (arith, saved_room)

unstopped : (restores : ℕ) (ended : Bool) → 1 ≤ restores → restores ≤ (if ended then 1 else 0)
    → (ended ≡ true) × (restores ≡ 1)
unstopped restores true some most = (refl, omega arith)
unstopped restores false some most = absurd (omega arith)

module _ {bytes : List ℕ} {journal : Content} (is : IsContent journal) (same : bytes ≡ text journal)
    (reads : (head : Content) (chip : ℕ → ℕ) (saved : ℕ → Bool) → JournalSaves head chip saved bytes
    → SameHeader head journal × Saves chip saved journal)
    (old : BusState) where
  can_restore_then : (saved : ℕ → Bool) (first : Chip) → CanUndo saved first bytes old → CanRestore journal first old
  can_restore_then saved first can_undo =
      can_restore_read saved first bytes old journal can_undo (reads (header_of first) first.bytes saved can_undo.journal)

  saves_all : (saved : ℕ → Bool) (first : Chip) → CanUndo saved first bytes old → Saves first.bytes saved journal
  saves_all saved first can_undo = (reads (header_of first) first.bytes saved can_undo.journal).1

  pub undoes : {stops : List ℕ} {new : BusState} (restores : ℕ) → RunsRestores journal stops old new restores
      → Undoes bytes stops old new restores
  undoes restores shows = record {
    some = shows.some;
    most = shows.most;
    allowed = shows.allowed;
    latch = shows.latch;
    same = λ modelled saved first can_undo. shows.back modelled first (can_restore_then saved first can_undo);
    are = λ modelled punctual saved first can_undo.
        rw (saved_count first.bytes saved journal (saves_all saved first can_undo)) at (shows.are modelled punctual);
    last = λ modelled punctual saved first can_undo.
        rw (saved_count first.bytes saved journal (saves_all saved first can_undo)) at (shows.last modelled punctual);
  }

  module _ {n : ℕ} (new : BusState) (leaves : LeavesRestores journal n old new) where
    pub undo_wears : WearsSaved bytes old new
    undo_wears modelled saved first can_undo s other = leaves.worn modelled s
        (sym (Saves-set first.bytes saved journal s (saves_all saved first can_undo)) ∙ other)

    pub undo_sends : SendsFromJournal bytes n old new
    undo_sends other =
        rw (is_read bytes (Ok journal) other.content (is, same) tt other.is other.same) at leaves.sends

    pub undo_programs : ProgramsFromJournal bytes old new
    undo_programs other =
        rw (is_read bytes (Ok journal) other.content (is, same) tt other.is other.same) at leaves.programs

  pub undo_refuses : (new : BusState) (refusal : Refusal) → StopsRestores journal old new refusal
      → RefusesUndo bytes old new refusal
  undo_refuses new refusal refuses = record {
    answers = λ whole. refuses.answers;
    last_transaction = refuses.last_transaction;
    names = saved_names journal bytes refusal is same refuses.names;
    fails = refuses.fails (saved_room journal is);
    never = λ modelled punctual saved first can_undo.
        refuses.never modelled punctual first (can_restore_then saved first can_undo);
  }

pub latch_alone : {request : Request} {image bytes stops : List ℕ} {allowance : ℕ} {old mid new : BusState}
    {vault : VaultState} {ended : Bool} (restores : ℕ) → RunsSession request image allowance old mid vault ended
    → Undoes bytes stops mid new restores → IsModelled old → IsModelled mid → restores ≤ (if ended then 1 else 0)
    → new.chip.latch ≡ true → old.chip.latch ≡ true
latch_alone {ended = ended} restores shows undoes modelled then_modelled few set =
    let (done, one) = unstopped restores ended undoes.some few in shows.latch modelled done (undoes.latch then_modelled one set)

pub unread : (bytes : List ℕ) (old new : BusState) (fault : JournalFault) → ((content : Content) → IsContent content → bytes ≡ text content → ⊥)
    → RefusesUndo bytes old new (BadJournal fault)
unread bytes old new fault never = search arith
