pub mod Places
pub mod Kept
pub mod Copies
