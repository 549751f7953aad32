pub mod Call
pub mod Cut
