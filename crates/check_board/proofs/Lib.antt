pub mod Blocks
pub mod Places
pub mod Open
pub mod Held
pub mod Counted
pub mod Stamped
