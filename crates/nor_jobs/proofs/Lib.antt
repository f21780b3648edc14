pub mod Identified
