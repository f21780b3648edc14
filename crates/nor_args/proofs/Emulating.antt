-- The operation of a program for hardware follows from the job that the same options ask for on an emulated chip.
use Rattle.std.proofs.Common.{◌≡◌, Bool, None, Option, Some, arith, codes, option_map}
use Rattle.std.specs.Prelude.{is_some, not}
use Rattle.std.specs.Borrow.{Bor}
use Rattle.nor_probe.specs.declared.table.ChipName.{ChipName}
use Rattle.nor_args.specs.Text.{Text}
use Rattle.nor_args.specs.Given.{Texts, progress_mode, srp0_of}
use Rattle.nor_args.specs.Faults.{first_fault, usage_faults}
use Rattle.nor_args.specs.Job.{IsAsked, IsOperation, IsTask, name_in_any_case}
use Rattle.nor_args.specs.declared.job.ChipJob.{ChipJob}
use Rattle.nor_args.specs.declared.job.Job.TheVariants as job
use Rattle.nor_args.specs.declared.job.ProgressMode.{ProgressMode}
use Rattle.nor_args.specs.declared.job.Task.{Task}

abbrev any_chip : Text
any_chip = codes "dummy:emulate=TINY64"

abbrev pub emulated : Texts → Texts
emulated given = record given { programmer = Some any_chip }

task-same : (given : Texts) (asked : Task) → IsTask (emulated given) asked → IsTask given asked
task-same given asked is = grind arith

pub given_text : (text : Option (Bor Text)) (is : Bool) → is ≡ is_some text → is ≡ is_some (option_map (λ t. t.now) text)
given_text None is same = same
given_text (Some text) is same = same

pub operation-asked : (given : Texts) (on_chip : ChipJob) (named : Option ChipName) (backup : Bool)
    (srp0 : Option Bool) (progress : ProgressMode) (log : Option (Bor Text))
    → named ≡ option_map name_in_any_case given.chip → backup ≡ is_some given.backup
    → srp0 ≡ srp0_of given → progress ≡ progress_mode given → option_map (λ (file : Bor Text). file.now) log ≡ given.log
    → (first_fault (usage_faults (emulated given)) ≡ None) × IsAsked (emulated given) (job.Chip on_chip)
    → IsOperation given (record {
      named = named;
      verifies_all = not given.no_verify_all;
      is_quick = given.quick;
      is_replaced_chip = given.replaced_chip;
      is_backup = backup;
      is_flash_name = given.flash_name;
      srp0 = srp0;
      progress = progress;
      is_verbose = given.verbose;
      log = log;
      task = on_chip.task;
    })
operation-asked given on_chip named backup srp0 progress log called same set shown logged is = search task-same
