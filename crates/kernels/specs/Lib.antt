pub mod HalvesUp
pub mod Kernels
pub mod T871
pub mod Pixels
pub mod Inner
