pub mod Replied
pub mod Scanning
pub mod Identity
pub mod Judging
pub mod Saving
pub mod SavedScan
pub mod SavedWhole
pub mod Verdict
