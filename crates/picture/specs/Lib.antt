pub mod Picture
pub mod Inner
