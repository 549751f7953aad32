pub mod Chosen
pub mod Made
pub mod Stays
pub mod Writes
