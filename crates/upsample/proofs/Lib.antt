-- Laws that the proofs and other crates cite.
pub mod Accepted
pub mod Axis
pub mod Lowest
pub mod Ratios
