pub mod Ports
pub mod BoardBus
pub mod Setting
pub mod Unused
pub mod Looking
pub mod Reached
pub mod Wired
