use Rattle.std.specs.Prelude.{◌==◌, ◌/◌, ◌%◌, ℕ, Bool, true, false, List, [], ◌∷◌, Some, codes, slice_index, if◌then◌else◌}
use Rattle.nor_args.specs.declared.job.Task.{Task}
use Rattle.nor_args.specs.declared.job.Task.TheVariants as task
use Rattle.nor_args.specs.declared.job.Wanted.{Wanted}
use Rattle.nor_args.specs.declared.job.Wanted.TheVariants as wanted
use Rattle.nor_console.specs.AnswerLines.{protected_line}
use Rattle.nor_console.specs.Lines.{line}
use Rattle.nor_request.specs.Texts.{hex_digits}
use Rattle.board_jobs.specs.declared.ending.Further.{Further}
use Rattle.board_jobs.specs.declared.ending.Further.TheVariants as further

abbrev pub unverified_line : List ℕ
unverified_line = line (codes "Nothing was verified (-n)." ∷ [])

-- The end of the line of `--wp-status`: whether SRP0 (bit 7 of status 1) or SRP1 (bit 0 of status 2) is set.
abbrev pub lock_words : (bytes : List ℕ) → List ℕ
lock_words bytes = if slice_index bytes 0 / 128 == 1
    then (if slice_index bytes 1 % 2 == 1 then codes ", SRP0 and SRP1 are set" else codes ", SRP0 is set")
    else (if slice_index bytes 1 % 2 == 1 then codes ", SRP1 is set" else codes "")

abbrev pub status_bytes_line : (bytes : List ℕ) → List ℕ
status_bytes_line bytes = line (codes "Status: 0x" ∷ hex_digits 2 (slice_index bytes 0) ∷ codes " 0x"
    ∷ hex_digits 2 (slice_index bytes 1) ∷ lock_words bytes ∷ [])

abbrev pub further_line : Further → List ℕ
further_line further.Nothing = []
further_line further.Unverified = unverified_line
further_line (further.Protected start len) = protected_line (Some (start, len))
further_line (further.Status bytes) = status_bytes_line bytes

-- The line after a change: the range of `--wp-range`, or that nothing was verified (`-n`), otherwise none.
abbrev pub further_of_change : Wanted → (verify : Bool) → Further
further_of_change (wanted.Range start len) verify = further.Protected (if len == 0 then 0 else start) len
further_of_change _ true = further.Nothing
further_of_change _ false = further.Unverified

abbrev pub further_of : Task → (status : List ℕ) → Further
further_of (task.Change change) status = further_of_change change.wanted change.verify
further_of task.WpStatus status = further.Status status
further_of _ status = further.Nothing
