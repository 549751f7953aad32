pub mod Truths
pub mod Apart
