pub mod Blending
pub mod Search
pub mod Settled
pub mod Sums
