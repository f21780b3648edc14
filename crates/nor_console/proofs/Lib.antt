pub mod Printed
pub mod FileFaults
pub mod Included
pub mod Lent
mod WordsSoFar
