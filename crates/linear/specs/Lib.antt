pub mod Linear
pub mod Bound
pub mod Inner
