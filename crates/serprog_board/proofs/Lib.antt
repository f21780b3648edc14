pub mod Started
pub mod Rates
pub mod Results
pub mod BoardFits
pub mod Reached
pub mod StillRestorable
pub mod Looking
