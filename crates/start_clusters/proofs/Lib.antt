pub mod Newest
pub mod Segments
pub mod Stamps
