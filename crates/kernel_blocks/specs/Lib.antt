pub mod Stores
pub mod Inner
