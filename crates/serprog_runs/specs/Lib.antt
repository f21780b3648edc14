pub mod Connected
pub mod Run
pub mod Sealed
pub mod ChipLayouts
pub mod RunFaults
pub mod Undone
