pub mod Differences
pub mod Floats
pub mod Refusals
