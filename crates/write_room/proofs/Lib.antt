pub mod Worn
pub mod Rooms
