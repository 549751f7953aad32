pub mod Pages
pub mod Put
