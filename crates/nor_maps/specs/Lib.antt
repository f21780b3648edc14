pub mod Records
pub mod Descriptor
pub mod Fmap
pub mod Faults
