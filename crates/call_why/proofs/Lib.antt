pub mod Forecasts
pub mod Replies
pub mod Holder
pub mod Small
pub mod Answers
