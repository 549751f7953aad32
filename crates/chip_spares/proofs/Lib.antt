pub mod Spares
pub mod Words
