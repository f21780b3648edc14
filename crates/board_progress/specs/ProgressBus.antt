use Rattle.std.specs.Prelude.{Option}
use Rattle.board_progress.specs.declared.notes.Notes.{Notes}
use Rattle.board_progress.specs.declared.progress.ProgressBus.{ProgressBus}

abbrev pub shown_bus : {B : Type 0} → ProgressBus B → B
shown_bus shown = shown.bus

abbrev pub notes_of : {B : Type 0} → ProgressBus B → Option Notes
notes_of shown = shown.notes
