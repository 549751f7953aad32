pub mod Shares
pub mod Rows
pub mod Copied
pub mod Room
pub mod Erases
pub mod Reached
