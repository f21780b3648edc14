-- A connection of a run: the name of a device, and the bus to the chip at this device.
use Rattle.std.specs.Prelude.{◌≡◌, ℕ, true, List, Option, string_bytes}
use Rattle.nor_model.specs.Bus.{BusState}
use Rattle.nor_model.specs.declared.bus.Bus.{Ghosts}
use Rattle.nor_args.specs.Text.{Text}
use Rattle.nor_buses.specs.Ahead.{ahead_of}
use Rattle.nor_buses.specs.declared.ahead.ReadAhead.{ReadAhead}
use Rattle.board_progress.specs.ProgressBus.{shown_bus}
use Rattle.board_progress.specs.declared.progress.ProgressBus.{ProgressBus}
use Rattle.serprog_runs.specs.declared.connected.Connected.{Connected}

abbrev pub device_of : {B : Type 0} → Connected B → Text
device_of connected = string_bytes connected.device

-- What contracts see of a connection.
pub record Seen (B : Type 0) : Type 1 where
  -- The state of the bus.
  pub state : Connected B → BusState
  -- The state of the board's bus below those that read ahead and show the progress.
  pub inside : Connected B → BusState
  -- The image that the bus expects, if any.
  pub expected : Connected B → Option (List ℕ)
  -- Holds if the connector may return this bus for the device of this connection.
  pub finds : Connected B → Type 0

-- Holds if a new bus with the state `outer` reads ahead over one with the state `inside`.
pub record IsAhead (inside outer : BusState) : Type 0 where
  pub honest : inside.honest ≡ true → outer.honest ≡ true
  pub chip : outer.chip ≡ inside.chip
  pub further : outer.further ≡ inside.further
  pub steady : outer.steady ≡ inside.steady

-- What is seen of a connection whose bus reads ahead over a board's bus, and shows the progress of the job. `state` is
-- the state of the whole bus; the other arguments are about the board's bus.
abbrev pub seen_over : {B : Type 0} {over : Ghosts B} → (state : ProgressBus (ReadAhead B over) → BusState)
    → (inside : B → BusState) → (expected : B → Option (List ℕ)) → (finds : Text → B → Type 0)
    → Seen (ProgressBus (ReadAhead B over))
seen_over state inside expected finds = record {
  state = λ connected. state connected.bus;
  inside = λ connected. inside (ahead_of (shown_bus connected.bus));
  expected = λ connected. expected (ahead_of (shown_bus connected.bus));
  finds = λ connected. finds (device_of connected) (ahead_of (shown_bus connected.bus));
}
