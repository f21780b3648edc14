-- The job that the options ask for and, for programs for hardware, the fault of options that ask for no job.
use Rattle.std.specs.Prelude.{◌≡◌, ◌⊎◌, [], ◌∷◌, true, false, MatchResult, Option, Some, None, is_some, not}
use Rattle.std.specs.Prelude.{map, option_and_then, option_map}
use Rattle.std.specs.Borrow.{Bor}
use Rattle.std.specs.Char.{to_ascii_uppercase}
use Rattle.std.specs.Option.{IsSomeAnd}
use Rattle.nor_probe.specs.Table.{name_of}
use Rattle.nor_probe.specs.declared.table.ChipName.{ChipName}
use Rattle.nor_args.specs.Faults.{first_fault, operation_faults}
use Rattle.nor_args.specs.Given.{Texts, gives_layout, how_many, layout_file, layout_form, operations, output_of}
use Rattle.nor_args.specs.Given.{is_on_chip, progress_mode, srp0_of}
use Rattle.nor_args.specs.Numbers.{range_of}
use Rattle.nor_args.specs.OtherNames.{row_named}
use Rattle.nor_args.specs.Programmer.{IsProgrammer}
use Rattle.nor_args.specs.Reasons.{IsReason}
use Rattle.nor_args.specs.Stops.{stops_of}
use Rattle.nor_args.specs.Text.{Text}
use Rattle.nor_args.specs.declared.job.Change.{Change}
use Rattle.nor_args.specs.declared.job.ChipJob.{ChipJob}
use Rattle.nor_args.specs.declared.job.HardwareJob.{HardwareJob}
use Rattle.nor_args.specs.declared.job.HardwareJob.TheVariants as hardware
use Rattle.nor_args.specs.declared.job.Job.{Job}
use Rattle.nor_args.specs.declared.job.Job.TheVariants as job
use Rattle.nor_args.specs.declared.job.JournalUse.{JournalUse}
use Rattle.nor_args.specs.declared.job.JournalUse.TheVariants as uses
use Rattle.nor_args.specs.declared.job.Operation.{Operation}
use Rattle.nor_args.specs.declared.job.ProgrammerJob.{ProgrammerJob}
use Rattle.nor_args.specs.declared.job.Regions.{Regions}
use Rattle.nor_args.specs.declared.job.Task.{Task}
use Rattle.nor_args.specs.declared.job.Task.TheVariants as task
use Rattle.nor_args.specs.declared.job.Wanted.{Wanted}
use Rattle.nor_args.specs.declared.job.Wanted.TheVariants as want
use Rattle.nor_args.specs.declared.reasons.Reason.TheVariants as because
use Rattle.nor_args.specs.declared.reasons.WrongArguments.{WrongArguments}
use Rattle.nor_args.specs.declared.words.UsageFault.TheVariants as why

abbrev pub NamesFile : Option Text → Bor Text → Type 0
NamesFile option text = option ≡ Some text.now

-- Holds if the options give exactly these regions (`None` if they give neither a layout nor `-i`).
abbrev pub IsRegions : Texts → Option Regions → Type 0
IsRegions given None = (gives_layout given ≡ false) × (given.names ≡ None)
IsRegions given (Some regions) = (gives_layout given ≡ true)
    × (option_map (λ (file : Bor Text). file.now) regions.layout ≡ layout_file given)
    × (regions.form ≡ layout_form given) × NamesFile given.names regions.names

abbrev pub IsWantedByArguments : Texts → Wanted → Type 0
IsWantedByArguments given (want.Write image) = NamesFile given.write image
IsWantedByArguments given want.Erase = given.erase ≡ true
IsWantedByArguments given (want.Range start len) = option_and_then range_of given.wp_range ≡ Some (start, len)

abbrev pub IsJournalUse : Texts → JournalUse → Type 0
IsJournalUse given (uses.Journal file) = NamesFile given.journal file
IsJournalUse given (uses.Rehearse stops) = option_and_then stops_of given.rehearse ≡ Some stops.items

pub record IsChange (given : Texts) (change : Change) : Type 0 where
  pub wanted : IsWantedByArguments given change.wanted
  pub regions : IsRegions given change.regions
  pub unlock : change.unlock ≡ given.unlock
  pub verify : change.verify ≡ not given.no_verify
  pub journal_use : IsJournalUse given change.journal_use

-- Holds if the options ask for this task. For `Probe`, they ask only for `--flash-name`, `--wp-enable` or
-- `--wp-disable`, or for no operation.
abbrev pub IsTask : Texts → Task → Type 0
IsTask given task.Probe = operations given ≡ how_many (given.flash_name ∷ given.wp_enable ∷ given.wp_disable ∷ [])
IsTask given task.FlashSize = given.flash_size ≡ true
IsTask given task.WpStatus = given.wp_status ≡ true
IsTask given task.WpList = given.wp_list ≡ true
IsTask given (task.Read file regions) = NamesFile (output_of given) file × IsRegions given regions
IsTask given (task.Verify file regions) = NamesFile given.verify file × IsRegions given regions
IsTask given (task.Change change) = IsChange given change
IsTask given (task.Restore journal) = NamesFile given.restore journal

pub record IsChipJob (given : Texts) (on_chip : ChipJob) : Type 0 where
  pub programmer : IsSomeAnd given.programmer (λ text. IsProgrammer text on_chip.programmer)
  pub named : on_chip.named ≡ option_map name_of given.chip
  pub task : IsTask given on_chip.task

abbrev pub IsAsked : Texts → Job → Type 0
IsAsked given job.List = given.list ≡ true
IsAsked given (job.Chip on_chip) = (given.list ≡ false) × IsChipJob given on_chip

-- the result of `row_named` for this value of `-c` in upper case
abbrev pub name_in_any_case : Text → ChipName
name_in_any_case text = row_named (map to_ascii_uppercase text)

pub record IsOperation (given : Texts) (operation : Operation) : Type 0 where
  pub sound : first_fault (operation_faults given) ≡ None
  pub named : operation.named ≡ option_map name_in_any_case given.chip
  pub verifies_all : operation.verifies_all ≡ not given.no_verify_all
  pub is_quick : operation.is_quick ≡ given.quick
  pub is_replaced_chip : operation.is_replaced_chip ≡ given.replaced_chip
  pub is_backup : operation.is_backup ≡ is_some given.backup
  pub is_flash_name : operation.is_flash_name ≡ given.flash_name
  pub srp0 : operation.srp0 ≡ srp0_of given
  pub progress : operation.progress ≡ progress_mode given
  pub is_verbose : operation.is_verbose ≡ given.verbose
  pub log : option_map (λ (file : Bor Text). file.now) operation.log ≡ given.log
  pub task : IsTask given operation.task

pub record IsWrongOperation (given : Texts) (wrong : WrongArguments) : Type 0 where
  pub fault : first_fault (operation_faults given) ≡ Some wrong.fault
  pub reason : IsReason given wrong.fault wrong.reason

pub record LacksProgrammer (given : Texts) (wrong : WrongArguments) : Type 0 where
  pub fault : wrong.fault ≡ why.NoProgrammer
  pub reason : wrong.reason ≡ because.NoProgrammer
  pub lacks : given.programmer ≡ None

-- Holds if there is no job because of this fault: a fault from 4 to 9 with `--check-journal` or `-L`, else fault 2.
abbrev pub IsWrongForHardware : Texts → WrongArguments → Type 0
IsWrongForHardware given wrong = ((is_on_chip given ≡ false) × IsWrongOperation given wrong)
    ⊎ ((is_on_chip given ≡ true) × LacksProgrammer given wrong)

pub record IsJournalCheck (given : Texts) (file : Bor Text) (image : Option (Bor Text)) : Type 0 where
  pub named : NamesFile given.check_journal file
  pub extracted : option_map (λ (file : Bor Text). file.now) image ≡ given.extract_image
  pub sound : first_fault (operation_faults given) ≡ None

pub record IsListAsked (given : Texts) : Type 0 where
  pub unchecked : given.check_journal ≡ None
  pub listed : given.list ≡ true
  pub sound : first_fault (operation_faults given) ≡ None

pub record IsProgrammerJob (given : Texts) (on_chip : ProgrammerJob) : Type 0 where
  pub on_a_chip : is_on_chip given ≡ true
  pub programmer : NamesFile given.programmer on_chip.programmer
  pub operation : MatchResult on_chip.operation (IsOperation given) (IsWrongOperation given)

abbrev pub IsHardwareAsked : Texts → HardwareJob → Type 0
IsHardwareAsked given (hardware.CheckJournal file image) = IsJournalCheck given file image
IsHardwareAsked given hardware.List = IsListAsked given
IsHardwareAsked given (hardware.Chip on_chip) = IsProgrammerJob given on_chip
