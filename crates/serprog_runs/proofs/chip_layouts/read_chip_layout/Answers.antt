use Rattle.std.proofs.Common.{◌∙◌, sym}
use Rattle.serprog_board.proofs.Results.{none_ok}
use Rattle.serprog_runs.proofs.ReadLayouts.{shown_none, shown_read}
use Rattle.serprog_runs.proofs.chip_layouts.read_chip_layout.Goals as goal

pub returns-in_err-chip-in-Some : goal.returns-in_err-chip-in-Some
returns-in_err-chip-in-Some g c = none_ok _ _ c.from_residual.result c.from_residual.ensures.1

pub returns-in_ok-chip-in-Some : goal.returns-in_ok-chip-in-Some
returns-in_ok-chip-in-Some g c =
    shown_read _ _ _ _ _ _ (sym c.form_on_chip.ensures ∙ c.in-Some.is) c.in_ok-chip-in-Some.ensures

pub returns-in-None : goal.returns-in-None
returns-in-None g c = shown_none _ _ _ _ (sym c.form_on_chip.ensures ∙ c.in-None.is)
