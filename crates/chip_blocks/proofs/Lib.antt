pub mod Frames
pub mod Rest
pub mod Begun
pub mod Leading
pub mod Looks
