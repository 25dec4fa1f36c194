pub mod Lowest
pub mod PlaneRows
pub mod Surplus
