pub mod Packed
pub mod Listed
