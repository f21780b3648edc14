-- Lemmas: after the log of a run was created, all other files are as before the files of the job were read.
use Rattle.std.proofs.Common.{◌∙◌, None, Option, Some, ap}
use Rattle.std.specs.Borrow.{Bor}
use Rattle.nor_files.specs.Files.{AreUntouched, FilesState, View}
use Rattle.nor_args.specs.Text.{Text}
use Rattle.board_progress.specs.Logging.{CreatesLog, StayButLog}
use Rattle.board_files.proofs.Extracted.{untouched_keeps}

pub log_unstarted : (log : Option (Bor Text)) {old new : FilesState} → AreUntouched old new → CreatesLog log old new
log_unstarted None same = same
log_unstarted (Some name) same = (
  ap (λ (view : View). view.nature) same.view,
  λ lawful other apart. untouched_keeps other same,
)

pub log_started : (log : Option (Bor Text)) (old read new : FilesState) → AreUntouched old read
    → CreatesLog log read new → CreatesLog log old new
log_started None old read new same made = record {
  view = made.view ∙ same.view;
  leaves = λ name left may. same.leaves name left (made.leaves name left may);
}
log_started (Some name) old read new same made = (
  made.0 ∙ ap (λ (view : View). view.nature) same.view,
  λ lawful other apart.
      let kept = made.1 (rw same.view lawful) other (rw same.view apart) in record {
        out = kept.out ∙ ap (λ (view : View). view.out other) same.view;
        seen = kept.seen ∙ ap (λ (view : View). view.seen other) same.view;
        leaves = λ left may. same.leaves other left (kept.leaves left may);
      },
)

pub ruleset log_steps = (log_unstarted, log_started)

pub log_seen : (log : Option (Bor Text)) (old new : FilesState) → CreatesLog log old new
    → StayButLog log old.view new.view
log_seen None old new made = made.view
log_seen (Some name) old new made = (
  made.0,
  λ lawful other apart.
      let kept = made.1 lawful other apart in (kept.out, kept.seen),
)
