pub mod Below
pub mod Counting
pub mod Verdicts
pub mod Sizes
