pub mod First
pub mod Chip
