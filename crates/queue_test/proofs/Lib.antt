mod Few
pub mod Once
