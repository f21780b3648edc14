-- What the port of a programmer was asked to send.
use Rattle.std.specs.Prelude.{ℕ, List}
use Rattle.nor_serprog.specs.Device.{PortState}
use Rattle.nor_serprog.specs.declared.link.Link.{Link}

-- The bytes that the link's port was asked to send: one list for each call, with the last call first.
abbrev pub asked_over : {P C : Type 0} (state : P → PortState) → Link P C → List (List ℕ)
asked_over state link = (state link.port).asked
