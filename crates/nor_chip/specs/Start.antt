use Rattle.std.specs.Prelude.{◌≡◌, ◌<◌, ◌/◌, ◌%◌, ◌==◌, [], ℕ, List, true, false, length, slice_index}
use Rattle.nor_model.specs.declared.config.Config.{Config}
use Rattle.nor_chip.specs.declared.sim.Delays.{Delays}
use Rattle.nor_model.specs.declared.running.Running.TheVariants.{Unknown}
use Rattle.nor_model.specs.Chip.{Chip, kept_in}
use Rattle.nor_model.specs.Bus.{BusState}

pub record Starts (setup : Config) (image flags : List ℕ) (delays : Delays) (state : BusState) : Type 0 where
  pub config : state.chip.config ≡ setup
  pub bytes : (a : ℕ) → state.chip.bytes a ≡ slice_index image a
  pub kept : state.chip.kept ≡ kept_in flags
  pub latch : state.chip.latch ≡ (slice_index flags 0 / 2 % 2 == 1)
  pub busy : state.chip.busy ≡ delays.now
  pub running : state.chip.running ≡ Unknown
  pub left : state.left ≡ 0
  pub honest : state.honest ≡ true
  pub history : state.history ≡ []
  pub sent : state.sent ≡ []
  pub allowances : state.allowances ≡ []
  pub worn : (s : ℕ) → state.worn s ≡ false
  pub steady : state.steady ≡ true
  pub polled_ready : state.polled_ready ≡ false

pub record AreChipBytes (chip : Chip) (bytes : List ℕ) : Type 0 where
  pub len : length bytes ≡ chip.config.size
  pub at : (a : ℕ) → a < chip.config.size → slice_index bytes a ≡ chip.bytes a
