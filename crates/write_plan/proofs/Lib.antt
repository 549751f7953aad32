pub mod Plans
pub mod Asked
