pub mod Names
pub mod Session
pub mod ReadBack
