pub mod Broken
pub mod Tests
