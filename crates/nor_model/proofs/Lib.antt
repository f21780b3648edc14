pub mod ProtectedBlocks
pub mod ProtectedAddresses
pub mod Kept
pub mod LeastCodes
pub mod Histories
pub mod Passed
pub mod Nature
pub mod RecordedSent
pub mod Round
pub mod Sizes
pub mod StatusBits
pub mod Steps
pub mod PageBytes
mod Walks
