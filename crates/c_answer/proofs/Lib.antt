pub mod Counts
pub mod Apart
