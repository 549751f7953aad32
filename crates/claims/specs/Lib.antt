pub mod Runs
pub mod Conditions
pub mod Requests
pub mod OldForm
pub mod Life
pub mod Frames
pub mod Stamps
