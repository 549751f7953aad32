pub mod Admitted
pub mod Timely
pub mod Again
pub mod Stands
pub mod Latest
pub mod Keeps
pub mod Recovers
