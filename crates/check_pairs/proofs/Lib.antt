pub mod Rows
pub mod Pairs
pub mod Enters
pub mod Fills
pub mod Keeps
pub mod Opens
