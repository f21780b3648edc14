pub mod Files
pub mod OneFile
pub mod Calls
pub mod Faults
pub mod Disk
pub mod Stored
pub mod Named
pub mod Memory
