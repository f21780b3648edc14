pub mod Over
pub mod Simulated
pub mod Pairs
pub mod Replying
