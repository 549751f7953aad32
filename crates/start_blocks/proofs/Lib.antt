pub mod Heads
pub mod Entries
pub mod Fulls
pub mod Left
pub mod Opens
pub mod Used
pub mod Blocks
