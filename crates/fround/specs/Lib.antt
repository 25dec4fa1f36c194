pub mod Rounding
pub mod Inner
