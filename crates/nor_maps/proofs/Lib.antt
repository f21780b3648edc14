pub mod Tables
pub mod Names
