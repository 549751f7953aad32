pub mod Frames
pub mod Runs
pub mod Views
pub mod Requests
