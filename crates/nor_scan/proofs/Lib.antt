pub mod Planned
pub mod Replied
pub mod Scans
pub mod Begun
pub mod Cuts
pub mod WholeChips
pub mod Held
pub mod OneVerdict
