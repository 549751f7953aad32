pub mod Sound
pub mod Heads
