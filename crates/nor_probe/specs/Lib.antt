pub mod Sfdp
pub mod Table
pub mod Known
pub mod Replied
pub mod Found
pub mod Steps
