pub mod Finding
pub mod Reading
pub mod Verifying
pub mod Protecting
