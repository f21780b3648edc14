pub mod Cells
pub mod Flash
pub mod Sim
pub mod Start
pub mod Spoilt
pub mod Trace
