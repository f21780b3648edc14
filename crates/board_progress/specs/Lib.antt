pub mod Logging
pub mod Estimates
pub mod Notes
pub mod Logged
pub mod ProgressBus
