pub mod Changes
pub mod Places
pub mod OneFile
pub mod Losses
pub mod Syncs
