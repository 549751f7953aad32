pub mod Requests
pub mod Taking
