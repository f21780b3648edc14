pub use Rattle.nor_geometry.specs.Size.{is_chip_size}
