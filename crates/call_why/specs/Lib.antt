pub mod Why
pub mod Asked
pub mod Holder
