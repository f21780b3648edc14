pub mod Helped
pub mod Ran
pub mod LogMade
pub mod RegionsKept
pub mod SealedRuns
pub mod ReadLayouts
pub mod Undone
pub mod Ahead
