use Rattle.std.proofs.Common.{◌≡◌}
use Rattle.std.specs.Prelude.{Bool, true}
pub use Rattle.nor_geometry.proofs.Sizes.{IsInBlocks, is_chip_size-in_blocks, is_chip_size-from}
pub use Rattle.nor_geometry.proofs.Sizes.{is_chip_size-power_of_two, is_power_of_two-size}
use Rattle.nor_geometry.proofs.Below.{same_tests}
use Rattle.nor_model.specs.declared.config.Config.{Config}

pub alike : (one other : Bool) → (one ≡ true → other ≡ true) → (other ≡ true → one ≡ true) → one ≡ other
alike = same_tests

pub sized_bounds : (config : Config) → IsInBlocks config.size
sized_bounds config = is_chip_size-in_blocks config.size config.sized
