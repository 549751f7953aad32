pub mod Cuts
pub mod Ends
