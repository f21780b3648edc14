pub mod Described
pub mod Whole
pub mod Extracted
pub mod RegionNames
pub mod RegionBytes
pub mod RegionApart
pub mod RegionsCopied
