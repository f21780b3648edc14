use Rattle.std.proofs.KnownBytes.{Appends-trans}
use Rattle.std.proofs.lemmas.Result.{on_ok_weaker}
use Rattle.board_jobs.proofs.lock_lines.print_meaning.Goals as goal

pub returns-in_ok-print_text : goal.returns-in_ok-print_text
returns-in_ok-print_text g c = rw c.if-srp0.true (on_ok_weaker c.print_text-then-srp0.result
    (λ appended. Appends-trans _ _ _ _ _ c.in_ok-print_text.ensures appended) c.print_text-then-srp0.ensures)

pub returns-in_ok-print_text-2 : goal.returns-in_ok-print_text-2
returns-in_ok-print_text-2 g c = rw c.if-srp0.false (on_ok_weaker c.print_text-else-srp0-2.result
    (λ appended. Appends-trans _ _ _ _ _ c.in_ok-print_text-2.ensures appended) c.print_text-else-srp0-2.ensures)
