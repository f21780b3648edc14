pub mod Within
pub mod Change
pub mod Spending
pub mod Erasing
pub mod Programming
pub mod Applying
