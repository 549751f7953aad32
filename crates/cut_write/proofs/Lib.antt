pub mod Counts
pub mod Firsts
pub mod Leaves
pub mod Limits
