-- The fields and the state of a `ReadAhead`. This bus reads data ahead, and keeps one block of it in memory.
use Rattle.std.specs.Prelude.{ℕ, List}
use Rattle.nor_model.specs.Bus.{BusState}
use Rattle.nor_model.specs.Exchange.{Exchange}
use Rattle.nor_model.specs.declared.bus.Bus.{Ghosts}
use Rattle.nor_buses.specs.Blocks.{reads_ahead}
use Rattle.nor_buses.specs.declared.ahead.ReadAhead.{ReadAhead}

abbrev pub ahead_of : {B : Type 0} {over : Ghosts B} → ReadAhead B over → B
ahead_of ahead = ahead.bus

-- The address of the first byte of the block, or any number if the block is empty.
abbrev pub begin : {B : Type 0} {over : Ghosts B} → ReadAhead B over → ℕ
begin ahead = ahead.start

abbrev pub held : {B : Type 0} {over : Ghosts B} → ReadAhead B over → ℕ
held ahead = ahead.len

abbrev pub history_of : {B : Type 0} {over : Ghosts B} → ReadAhead B over → List Exchange
history_of ahead = ahead.history.exchanges

abbrev pub inside_of : {B : Type 0} {over : Ghosts B} → ReadAhead B over → BusState
inside_of {over = over} ahead = over.state (ahead_of ahead)

abbrev pub longest_of : {B : Type 0} {over : Ghosts B} → ReadAhead B over → ℕ
longest_of ahead = ahead.longest

abbrev pub ahead_state : {B : Type 0} {over : Ghosts B} → ReadAhead B over → BusState
ahead_state ahead = reads_ahead (longest_of ahead) (inside_of ahead) (history_of ahead)
