use Rattle.std.proofs.KnownBytes.{Appends-trans}
use Rattle.std.proofs.lemmas.Result.{on_ok_weaker}
use Rattle.board_jobs.proofs.lock_lines.print_registers.Goals as goal

pub returns-in_ok-print_status-in-Some : goal.returns-in_ok-print_status-in-Some
returns-in_ok-print_status-in-Some g c = rw c.in-Some.is (on_ok_weaker c.print_status-in-Some.result
    (λ appended. Appends-trans _ _ _ _ _ c.in_ok-print_status-in-Some.ensures appended) c.print_status-in-Some.ensures)

pub returns-in-None : goal.returns-in-None
returns-in-None g c = rw c.in-None.is c.print_status-in-None.ensures
