pub mod Erases
pub mod Reached
