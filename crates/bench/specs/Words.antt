use Rattle.std.specs.Prelude.{ℕ, List, [], ◌∷◌, codes, if◌then◌else◌}
use Rattle.std.specs.Str.{bytes_eq}
use Rattle.bench.specs.declared.words.Request.{Request}
use Rattle.bench.specs.declared.words.Request.TheVariants.{Usage, Chip, Plan, Journal, Session, Read, Answers, Unknown}

abbrev pub request_named : List ℕ → Request
request_named word =
    if bytes_eq word (codes "chip") then Chip
    else if bytes_eq word (codes "plan") then Plan
    else if bytes_eq word (codes "journal") then Journal
    else if bytes_eq word (codes "session") then Session
    else if bytes_eq word (codes "read") then Read
    else if bytes_eq word (codes "answers") then Answers
    else Unknown

abbrev pub request_of : List (List ℕ) → Request
request_of [] = Usage
request_of (word ∷ []) = request_named word
request_of (word ∷ other ∷ others) = Unknown
