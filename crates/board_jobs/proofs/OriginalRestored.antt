-- A restore on a modelled bus, as a call to the engine and as a whole job: the original chip stays restorable.
use Rattle.std.proofs.Common.{◌≡◌, ◌≢◌, ◌∙◌, ℕ, Bool, false, true, List, None, Some, Option, Result, Ok, Err, IfErr}
use Rattle.std.proofs.Common.{IfOk, ap, inl, inr, refl}
use Rattle.std.specs.Prelude.{IfSome, IsSomeAnd, OnOk, ⊤}
use Rattle.std.proofs.lemmas.Bool.{false≢true}
use Rattle.nor_model.specs.Bus.{BusState, KeepsNature}
use Rattle.nor_model.specs.Chip.{Chip, IsSame}
use Rattle.nor_model.specs.History.{EndsStopped}
use Rattle.nor_model.proofs.Nature.{nature_then}
use Rattle.nor_driver.specs.StatusWrites.{fixed_of}
use Rattle.nor_journal.specs.Text.{Content as Journal}
use Rattle.nor_probe.specs.Found.{HasOtherName}
use Rattle.nor_probe.specs.Known.{IsModelled}
use Rattle.nor_probe.specs.declared.table.ChipName.{ChipName}
use Rattle.nor_request.specs.Errors.{EndsAtError}
use Rattle.nor_request.specs.declared.refusal.Refusal.{Refusal}
use Rattle.nor_request.specs.declared.refusal.Refusal.TheVariants.{NoChip, OtherChip, OtherName, OtherUnit}
use Rattle.nor_request.specs.declared.refusal.Refusal.TheVariants.{StatusDiffers, StatusLocked, Stopped, UnknownChip}
use Rattle.nor_request.specs.declared.report.Report.{Report}
use Rattle.nor_session.specs.Headline.{CanBeRewritten, CanRestore}
use Rattle.nor_session.specs.Restore.{Choice, ErrorsBy, FitsStatus, IsRestoredBy}
use Rattle.nor_console.specs.Readings.{AnswersCall}
use Rattle.nor_console.specs.Sessions.{ReportsDone}
use Rattle.nor_console.specs.declared.answers.Answer.{Answer}
use Rattle.nor_jobs.specs.Finding.{IsNamedFirst}
use Rattle.nor_jobs.specs.Restoring.{HasRestoredNamed, HasRunRestore, RestoresBy, choice_of}
use Rattle.board_jobs.specs.Fitting.{HasRestoredFitting}
use Rattle.board_jobs.specs.Looked.{HasOnlyLooked}
use Rattle.board_jobs.proofs.Original.{FailsNamed, can_restore_after, identified_fails, looked_by, looked_none}
use Rattle.board_jobs.proofs.Original.{modelled_after}

abbrev IsStopOrLock : Refusal → Type 0
IsStopOrLock Stopped = ⊤
IsStopOrLock StatusLocked = ⊤
IsStopOrLock _ = ⊥

other_unit : (unique : Option (List ℕ)) (of_first : List ℕ) → IfSome unique (λ u. u ≡ of_first)
    → IsSomeAnd unique (λ u. u ≢ of_first) → ⊥
other_unit (Some u) of_first same other = other same
other_unit None of_first same other = other

module _ (journal : Journal) (first : Chip) (old : BusState) (can : CanRestore journal first old) where
  fits_status : FitsStatus journal old.chip
  fits_status = record {
    fixed = can.within.fixed ∙ ap fixed_of can.saves.bits;
    all = λ none. can.within.kept (rw (← can.within.config, none) refl) ∙ can.saves.bits;
  }

  stop_or_lock : (choice : Choice) (new : BusState) (refusal : Refusal) → ErrorsBy choice journal old new refusal
      → IsStopOrLock refusal
  stop_or_lock choice new Stopped errors = tt
  stop_or_lock choice new StatusLocked errors = tt
  stop_or_lock choice new NoChip errors =
      absurd (false≢true (rw (← can.within.config, errors.holds) at can.known.shown))
  stop_or_lock choice new (UnknownChip fault) errors =
      absurd (false≢true (rw (← can.within.config, errors.holds) at can.known.shown))
  stop_or_lock choice new OtherChip errors = errors.holds (rw can.within.config can.saves.kind)
  stop_or_lock choice new OtherUnit errors =
      other_unit journal.unique _ can.saves.unit (rw can.within.config at errors.holds)
  stop_or_lock choice new StatusDiffers errors = errors.holds fits_status
  stop_or_lock choice new _ errors = absurd errors.holds

-- Holds for error 12, if the last transaction was a stop of the bus; for error 3, if the chip has another name; and
-- for error 9 of a rewrite, if a locked status of `first` protects a saved sector.
abbrev pub CallFails : (quick : Bool) → Option ChipName → Journal → (first : Chip) → (old new : BusState) → Refusal
    → Type 0
CallFails quick named journal first old new Stopped = EndsStopped new.history
CallFails quick named journal first old new OtherName = HasOtherName old.further named old.chip.config
CallFails quick named journal first old new StatusLocked = (quick ≡ false) × (¬ CanBeRewritten journal first)
CallFails quick named journal first old new _ = ⊥

locked_why : (quick : Bool) (journal : Journal) (first : Chip) (old new : BusState) → CanRestore journal first old
    → RestoresBy quick journal old new (Err StatusLocked) → (quick ≡ false) × (¬ CanBeRewritten journal first)
locked_why true journal first old new can restores = absurd (cc (restores.only_stops first can))
locked_why false journal first old new can restores =
    (refl, λ rewritable. absurd (cc (restores.only_stops first can rewritable)))

engine_fails : (quick : Bool) (named : Option ChipName) (journal : Journal) (first : Chip) (start old new : BusState)
    (refusal : Refusal) → CanRestore journal first old → RestoresBy quick journal old new (Err refusal)
    → ErrorsBy (choice_of quick) journal old new refusal → EndsAtError refusal new.history
    → CallFails quick named journal first start new refusal
engine_fails quick named journal first start old new Stopped can restores errors ends = ends
engine_fails quick named journal first start old new StatusLocked can restores errors ends =
    locked_why quick journal first old new can restores
engine_fails quick named journal first start old new refusal can restores errors ends =
    absurd (stop_or_lock journal first old can (choice_of quick) new refusal errors)

still_by : (quick : Bool) (journal : Journal) (first : Chip) (old new : BusState) (result : Result Report Refusal)
    → CanRestore journal first old → RestoresBy quick journal old new result → CanRestore journal first new
still_by true journal first old new result can restores = restores.within first can
still_by false journal first old new result can restores = restores.within first can

back_by : (quick : Bool) (journal : Journal) (first : Chip) (old new : BusState) (report : Report)
    → CanRestore journal first old → RestoresBy quick journal old new (Ok report) → IsSame first new.chip
back_by true journal first old new report can restores = restores.back first can
back_by false journal first old new report can restores = restores.back first can

-- Holds after a call from `old` to `new`: the bus kept its nature, the journal can still restore `first`, and after
-- success the chip is idle and equals `first`.
pub record HasKeptFirst (quick : Bool) (named : Option ChipName) (journal : Journal) (first : Chip)
    (old new : BusState) (outcome : Result Answer Refusal) : Type 0 where
  pub nature : KeepsNature old new
  pub still : CanRestore journal first new
  pub back : OnOk outcome (IsSame first new.chip × (new.chip.busy ≡ 0))
  pub fails : IfErr outcome (CallFails quick named journal first old new)

module _ (quick : Bool) (named : Option ChipName) (journal : Journal) (first : Chip) (start old new : BusState)
    (modelled : IsModelled old) (can : CanRestore journal first old) where
  result_kept : (result : Result Report Refusal) (outcome : Result Answer Refusal)
      → AnswersCall ReportsDone result outcome → KeepsNature start new → RestoresBy quick journal old new result
      → IfErr result (ErrorsBy (choice_of quick) journal old new)
      → IfErr result (λ refusal. EndsAtError refusal new.history)
      → IfOk result (IsRestoredBy (choice_of quick) journal old new)
      → HasKeptFirst quick named journal first start new outcome
  result_kept (Ok report) (Ok answer) returned nature restores errors ends done = record {
    nature = nature;
    still = still_by quick journal first old new (Ok report) can restores;
    back = (back_by quick journal first old new report can restores, done.made.idle);
    fails = tt;
  }
  result_kept (Err refusal) (Err passed) returned nature restores errors ends done = record {
    nature = nature;
    still = still_by quick journal first old new (Err refusal) can restores;
    back = tt;
    fails = rw returned (engine_fails quick named journal first start old new refusal can restores errors ends);
  }
  result_kept (Ok report) (Err passed) returned nature restores errors ends done = absurd returned
  result_kept (Err refusal) (Ok answer) returned nature restores errors ends done = absurd returned

  ran_kept : KeepsNature start old → (outcome : Result Answer Refusal) → HasRunRestore quick journal old new outcome
      → HasKeptFirst quick named journal first start new outcome
  ran_kept before outcome ran = result_kept ran.result outcome ran.returned
      (nature_then start old new ran.always.spends.nature before) (ran.restores_original modelled)
      (ran.modelled modelled).errors ran.always.last_transaction (ran.modelled modelled).done

named_looked : (named : Option ChipName) (old new : BusState) → IsNamedFirst named old new → HasOnlyLooked old new
named_looked None old new same = looked_none old new same
named_looked (Some name) old new found = looked_by found.1.always.only_reads

named_call : (quick : Bool) (named : Option ChipName) (journal : Journal) (first : Chip) (old new : BusState)
    (refusal : Refusal) → FailsNamed named old new refusal → CallFails quick named journal first old new refusal
named_call quick named journal first old new Stopped fails = fails
named_call quick named journal first old new OtherName fails = fails
named_call quick named journal first old new _ fails = absurd fails

named_kept : (quick : Bool) (named : Option ChipName) (journal : Journal) (first : Chip) (old new : BusState)
    (outcome : Result Answer Refusal) → IsModelled old → CanRestore journal first old
    → HasRestoredNamed quick named journal old new outcome → HasKeptFirst quick named journal first old new outcome
named_kept quick named journal first old new outcome modelled can (inl does) =
    let looked = named_looked named old does.found does.first in
    ran_kept quick named journal first old does.found new (modelled_after looked modelled)
    (can_restore_after looked journal first modelled.honest can) looked.only_reads.nature outcome does.ran
named_kept quick None journal first old new outcome modelled can (inr failed) = absurd failed.1
named_kept quick (Some name) journal first old new outcome modelled can (inr failed) =
    let looked = looked_by failed.1.always.only_reads in
    rw failed.2 (record {
      nature = looked.only_reads.nature;
      still = can_restore_after looked journal first modelled.honest can;
      back = tt;
      fails = named_call quick (Some name) journal first old new failed.0
          (identified_fails journal first (Some name) old new modelled can failed.0 failed.1);
    })

-- The first restore can't return error 17 here, so no second restore from a fitted journal follows.
pub fitting_kept : (quick : Bool) (named : Option ChipName) (journal : Journal) (first : Chip) (old new : BusState)
    (outcome : Result Answer Refusal) → IsModelled old → CanRestore journal first old
    → HasRestoredFitting quick named journal old new outcome → HasKeptFirst quick named journal first old new outcome
fitting_kept quick named journal first old new outcome modelled can (inl does) =
    named_kept quick named journal first old new outcome modelled can does
fitting_kept quick named journal first old new outcome modelled can (inr again) = absurd
    (named_kept quick named journal first old again.refused (Err StatusDiffers) modelled can again.first).fails
