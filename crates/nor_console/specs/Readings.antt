-- The results of the jobs that only read the chip.
use Rattle.std.specs.Prelude.{◌≡◌, true, List, ℕ, Option, Some, Result, Ok, Err}
use Rattle.nor_model.specs.Bus.{BusState}
use Rattle.nor_model.specs.Offered.{IsStart}
use Rattle.nor_journal.specs.Vault.{IsFresh, VaultState}
use Rattle.nor_layout.specs.declared.ranges.Span.{Span}
use Rattle.nor_probe.specs.Known.{IsModelled}
use Rattle.nor_probe.specs.declared.table.ChipName.{ChipName}
use Rattle.nor_read.specs.Protecting.{ProtectionAlways, ProtectionHonest, ProtectionModelled}
use Rattle.nor_read.specs.Reading.{ReadOutAlways, ReadOutHonest, ReadOutModelled}
use Rattle.nor_read.specs.Verifying.{VerifyAlways, VerifyHonest, VerifyModelled}
use Rattle.nor_read.specs.declared.protection.Protection.{Protection}
use Rattle.nor_request.specs.declared.refusal.Refusal.{Refusal}
use Rattle.nor_request.specs.declared.report.Report.{Report}
use Rattle.nor_args.specs.Text.{Text}
use Rattle.nor_files.specs.Files.{View, is_lawful}
use Rattle.nor_console.specs.declared.answers.Answer.{Answer}
use Rattle.nor_console.specs.declared.answers.Answer.TheVariants as answer

-- Holds if the call and the job both succeeded, with an answer that `reports` accepts, or returned the same error.
abbrev pub AnswersCall : {T : Type 0} → (T → Answer → Type 0) → Result T Refusal → Result Answer Refusal → Type 0
AnswersCall reports (Ok returned) (Ok answer) = reports returned answer
AnswersCall reports (Err refusal) (Err passed) = passed ≡ refusal
AnswersCall reports _ _ = ⊥

abbrev pub ReportsProtection : Protection → Answer → Type 0
ReportsProtection protection (answer.Protection returned) = returned ≡ protection
ReportsProtection protection _ = ⊥

abbrev pub ListsRanges : Protection → Answer → Type 0
ListsRanges protection (answer.Ranges ranges) = IsStart protection.size ranges
ListsRanges protection _ = ⊥

abbrev pub ReportsReadOut : Report → Answer → Type 0
ReportsReadOut report (answer.Read returned) = returned ≡ report
ReportsReadOut report _ = ⊥

abbrev pub ReportsVerified : Report → Answer → Type 0
ReportsVerified report (answer.Verified returned) = returned ≡ report
ReportsVerified report _ = ⊥

pub record HasReported (reports : Protection → Answer → Type 0) (named : Option ChipName) (old new : BusState)
    (outcome : Result Answer Refusal) : Type 0 where
  pub result : Result Protection Refusal
  pub always : ProtectionAlways old new result
  pub honest : old.honest ≡ true → ProtectionHonest named old new result
  pub modelled : IsModelled old → ProtectionModelled named old result
  pub returned : AnswersCall reports result outcome

-- Holds if the job called `read_out`, which obeyed its contract. `empty` and `filled` are the vault before and after.
pub record HasReadInto (named : Option ChipName) (ranges : Option (List Span)) (old new : BusState)
    (empty filled : VaultState) (outcome : Result Answer Refusal) : Type 0 where
  pub result : Result Report Refusal
  pub always : ReadOutAlways named ranges old new empty filled result
  pub honest : old.honest ≡ true → ReadOutHonest named ranges old new result
  pub modelled : IsModelled old → ReadOutModelled named ranges old new empty filled result
  pub returned : AnswersCall ReportsReadOut result outcome

-- Holds if the job called `read_out` with a fresh vault in the file. If the files obey their contract, the file then
-- has exactly the bytes that the vault accepted.
pub record HasReadOut (named : Option ChipName) (file : Text) (ranges : Option (List Span)) (old new : BusState)
    (after : View) (outcome : Result Answer Refusal) : Type 0 where
  pub empty : VaultState
  pub filled : VaultState
  pub fresh : IsFresh empty
  pub read : HasReadInto named ranges old new empty filled outcome
  pub holds : is_lawful after ≡ true → (filled.telling ≡ true) × (after.seen file ≡ Some filled.bytes)

pub record HasVerified (named : Option ChipName) (ranges : Option (List Span)) (image : List ℕ)
    (old new : BusState) (outcome : Result Answer Refusal) : Type 0 where
  pub result : Result Report Refusal
  pub always : VerifyAlways named ranges image old new result
  pub honest : old.honest ≡ true → VerifyHonest named ranges old new result
  pub modelled : IsModelled old → VerifyModelled named ranges image old new result
  pub returned : AnswersCall ReportsVerified result outcome
