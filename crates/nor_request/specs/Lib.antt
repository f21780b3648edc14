pub mod Refusal
pub mod Request
pub mod Errors
pub mod Texts
