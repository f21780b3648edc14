-- The results of restores, on every bus.
use Rattle.std.specs.Prelude.{◌≡◌, ◌⊎◌, ℕ, Bool, true, false, List, Option, Result, Err, OnOk}
use Rattle.nor_model.specs.Bus.{BusState}
use Rattle.nor_apply.specs.Applying.{ErasesFirst}
use Rattle.nor_journal.specs.Fault.{HasFault}
use Rattle.nor_journal.specs.declared.fault.JournalFault.TheVariants.{Short}
use Rattle.nor_journal.specs.Saved.{is_saved}
use Rattle.nor_journal.specs.Text.{Content as Journal}
use Rattle.nor_probe.specs.Known.{IsModelled}
use Rattle.nor_probe.specs.declared.table.ChipName.{ChipName}
use Rattle.nor_request.specs.declared.refusal.Refusal.{Refusal}
use Rattle.nor_request.specs.declared.refusal.Refusal.TheVariants.{BadJournal}
use Rattle.nor_request.specs.declared.report.Report.{Report}
use Rattle.nor_session.specs.Headline.{RestoresOriginal, RewritesOriginal}
use Rattle.nor_session.specs.Restore.{AlwaysBy, Choice, HonestBy, ModelledBy, differing, every_saved}
use Rattle.nor_console.specs.Readings.{AnswersCall}
use Rattle.nor_console.specs.Sessions.{ReportsDone}
use Rattle.nor_console.specs.declared.answers.Answer.{Answer}
use Rattle.nor_console.specs.declared.messages.Fault.{Fault}
use Rattle.nor_console.specs.declared.messages.Fault.TheVariants as end
use Rattle.nor_jobs.specs.Finding.{FailsToName, IsNamedFirst}

-- Holds if `bytes` are no journal, and the fault is error 15 with their journal fault (1 for the fault `NoJournal`).
abbrev pub IsNoJournal : (bytes : List ℕ) → Fault → Type 0
IsNoJournal bytes end.NoJournal = HasFault bytes Short
IsNoJournal bytes (end.Refused (BadJournal why)) = HasFault bytes why
IsNoJournal bytes _ = ⊥

abbrev pub choice_of : (quick : Bool) → Choice
choice_of true = differing
choice_of false = every_saved

abbrev pub RestoresBy : (quick : Bool) → Journal → (old new : BusState) → Result Report Refusal → Type 0
RestoresBy true journal old new result = RestoresOriginal journal old new result
RestoresBy false journal old new result = RewritesOriginal journal old new result

-- Holds if `outcome` is the result of a call that obeyed the contract of `restore` (if `quick`) or else of `rewrite`.
pub record HasRunRestore (quick : Bool) (journal : Journal) (old new : BusState)
    (outcome : Result Answer Refusal) : Type 0 where
  pub result : Result Report Refusal
  pub restores_original : IsModelled old → RestoresBy quick journal old new result
  pub always : AlwaysBy (choice_of quick) journal old new result
  pub honest : old.honest ≡ true → HonestBy (choice_of quick) journal old new result
  pub modelled : IsModelled old → ModelledBy (choice_of quick) journal old new result
  pub thorough : quick ≡ false → OnOk result (ErasesFirst (is_saved journal) old new)
  pub returned : AnswersCall ReportsDone result outcome

pub record HasRunNamed (quick : Bool) (named : Option ChipName) (journal : Journal) (old new : BusState)
    (outcome : Result Answer Refusal) : Type 0 where
  pub found : BusState
  pub first : IsNamedFirst named old found
  pub ran : HasRunRestore quick journal found new outcome

-- Holds if a restore was run, or if the check of the name failed and ended the job with its error.
abbrev pub HasRestoredNamed : (quick : Bool) → Option ChipName → Journal → (old new : BusState) → Result Answer Refusal
    → Type 0
HasRestoredNamed quick named journal old new outcome = HasRunNamed quick named journal old new outcome
    ⊎ ((refusal : Refusal) × FailsToName named old new refusal × (outcome ≡ Err refusal))
