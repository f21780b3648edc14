pub mod Estimated
