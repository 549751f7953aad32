pub mod Fields
pub mod Numerals
pub mod LongLines
pub mod Verdict
