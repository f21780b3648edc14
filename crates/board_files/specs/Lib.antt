pub mod Sources
pub mod Regions
pub mod RegionRoles
pub mod RegionCopies
pub mod Journals
pub mod Images
pub mod Tasks
