pub mod Lookup
pub mod Sectors
