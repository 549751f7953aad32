pub mod Told
pub mod Forecasts
pub mod Truths
pub mod Apart
