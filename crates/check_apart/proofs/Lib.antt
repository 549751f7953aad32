pub mod Views
pub mod Whole
pub mod Seen
pub mod Turns
