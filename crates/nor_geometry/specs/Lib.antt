pub mod Below
pub mod Counts
pub mod Size
