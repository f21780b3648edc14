-- The announcement that a session or restore makes before it changes the chip.
use Rattle.std.specs.Prelude.{◌≡◌, ◌/◌, ◌⊎◌, ℕ, Result, IfOk}
use Rattle.nor_model.specs.Bus.{BusState}
use Rattle.nor_plan.specs.Planned.{fewest_erases}
use Rattle.nor_apply.specs.declared.changes.Changes.{Changes}
use Rattle.nor_apply.specs.Applying.{raised_in}
use Rattle.nor_request.specs.declared.report.Report.{Report}
use Rattle.nor_request.specs.declared.refusal.Refusal.{Refusal}
use Rattle.nor_session.specs.declared.announcement.Announcement.{Announcement}

-- The announcement of these changes: the given number of touched sectors, and the number of planned erases.
abbrev pub announcement_of : Changes → (touched : ℕ) → Announcement
announcement_of changes touched =
    record { touched = touched; erases = fewest_erases changes.kinds (changes.size / 4096) (raised_in changes) }

abbrev pub announcement_of_report : Report → Announcement
announcement_of_report report = record { touched = report.touched; erases = report.erases }

-- Holds if an announcement was made (`Was`) or no modifying command was sent, and after success the announced numbers
-- are those of the report. The definition doesn't say that the announcement came before the first modifying command.
pub record Announces (Was : Announcement → Type 0) (old new : BusState) (result : Result Report Refusal) : Type 0 where
  pub announced_or_unsent : ((announcement : Announcement) × Was announcement) ⊎ (new.sent ≡ old.sent)
  pub as_reported : IfOk result (λ report. Was (announcement_of_report report))
