pub mod AtStops
pub mod Lines
pub mod Page
