pub mod First
pub mod Board
pub mod Ends
