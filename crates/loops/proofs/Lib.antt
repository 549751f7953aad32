pub mod Below
pub mod Elements
pub mod Lent
pub mod Ranges
pub mod Slices
pub mod Tables
