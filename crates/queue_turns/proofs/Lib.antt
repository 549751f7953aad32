pub mod Served
pub mod Limited
