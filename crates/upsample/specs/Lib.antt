pub mod Weights
pub mod Triangular
pub mod Inner
