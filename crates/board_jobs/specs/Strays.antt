use Rattle.std.specs.Prelude.{◌<◌, ℕ, ⊤, Option, Some}
use Rattle.nor_sums.specs.Sums.{Agree, entry_of}
use Rattle.board_progress.specs.Notes.{after_of}
use Rattle.board_progress.specs.declared.notes.Notes.{Notes}
use Rattle.board_files.specs.declared.sums_file.Before.{Before}
use Rattle.board_files.specs.declared.sums_file.Before.TheVariants as before

-- Holds if each sector with a checksum in `Before` (before the session) has the same checksum in `Notes` (after the
-- restore). Always holds if there are no such checksums, or no `Notes`.
abbrev pub IsAsBefore : Before → Option Notes → Type 0
IsAsBefore (before.Known sums) (Some notes) = (s : ℕ) → s < 4096
    → Agree (entry_of sums.entries.items s) (entry_of (after_of notes).entries.items s)
IsAsBefore _ _ = ⊤
