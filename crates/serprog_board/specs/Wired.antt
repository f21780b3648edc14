-- What a run's port was asked to send, and what the run's bus was asked for.
use Rattle.std.specs.Prelude.{ℕ, Bool, List}
use Rattle.nor_model.specs.Passed.{ArePassedOn}
use Rattle.nor_model.specs.Sent.{Sent}
use Rattle.nor_serprog.specs.Modifying.{passed_by}

-- Holds if each transaction in `asked` that may modify a chip, except those that begin with ABh or FFh, was made, in
-- order, for one of the transactions `sent`: it is the same or, for a page program, a part of it or a write enable. (A
-- write enable may not be in `asked` yet.) `asked` are the bytes that a port was asked to send: one list for each call,
-- with the last call first.
abbrev pub AsksOnly : (asked : List (List ℕ)) → Sent → Type 0
AsksOnly asked sent = ∥ ((waits : Bool) × ArePassedOn sent (passed_by waits asked)) ∥₁
