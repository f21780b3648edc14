pub mod Finding
pub mod Sources
pub mod Restoring
