-- Definitions for the contracts of `Wire`, the record of what a port was asked to send and of what it returned.
use Rattle.std.specs.Prelude.{ℕ, List, [], ◌∷◌}
use Rattle.nor_model.specs.Exchange.{Exchange}
use Rattle.nor_serprog.specs.declared.wire.Wire.{Wire}
use Rattle.nor_serprog.specs.Asked.{bytes_of_calls}

abbrev pub calls_in : List Exchange → List (List ℕ)
calls_in [] = []
calls_in (call ∷ earlier) = call.out ∷ calls_in earlier

abbrev pub asked_on : Wire → List (List ℕ)
asked_on wire = calls_in wire.sent.exchanges

abbrev pub received_on : Wire → List ℕ
received_on wire = bytes_of_calls (calls_in wire.received.exchanges)
