pub mod Names
pub mod BoardT
pub mod StartT
pub mod CutT
pub mod WornT
