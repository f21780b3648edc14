-- The results of the jobs that only identify an emulated chip.
use Rattle.std.specs.Prelude.{◌≡◌, ◌<◌, Option, Result, MatchResult}
use Rattle.nor_model.specs.Bus.{BusState}
use Rattle.nor_driver.specs.OnlyReads.{OnlyReads}
use Rattle.nor_probe.specs.Found.{most_probe}
use Rattle.nor_probe.specs.declared.table.ChipName.{ChipName}
use Rattle.nor_request.specs.declared.refusal.Refusal.{Refusal}
use Rattle.nor_request.specs.declared.refusal.Refusal.TheVariants.{OtherName, Stopped}
use Rattle.nor_args.specs.declared.programmer.Programmer.{Programmer}
use Rattle.flashnor.specs.Chips.{allowance_of}
use Rattle.flashnor.specs.Found.{HasName, IsEmulatedFound, emulated_part}
use Rattle.nor_console.specs.declared.answers.Answer.{Answer}
use Rattle.nor_console.specs.declared.answers.Answer.TheVariants as answer

-- Holds if an identification on a ready bus (`IsReady`) may return this error.
abbrev pub FindRefuses : Programmer → Option ChipName → Refusal → Type 0
FindRefuses programmer named OtherName = HasName named programmer.chip → ⊥
FindRefuses programmer named Stopped = allowance_of programmer < most_probe
FindRefuses programmer named _ = ⊥

abbrev pub ReportsEmulated : Programmer → Option ChipName → Answer → Type 0
ReportsEmulated programmer named (answer.Found found) = IsEmulatedFound named programmer.chip found
ReportsEmulated programmer named _ = ⊥

abbrev pub ReportsEmulatedSize : Programmer → Option ChipName → Answer → Type 0
ReportsEmulatedSize programmer named (answer.Size size) =
    HasName named programmer.chip × (size ≡ (emulated_part programmer.chip).size)
ReportsEmulatedSize programmer named _ = ⊥

pub record IdentifiesEmulated (reports : Answer → Type 0) (programmer : Programmer) (named : Option ChipName)
    (old new : BusState) (outcome : Result Answer Refusal) : Type 0 where
  pub only_reads : OnlyReads most_probe old new
  pub returned : MatchResult outcome reports (FindRefuses programmer named)
