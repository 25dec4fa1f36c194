-- Laws that the proofs and other crates cite.
pub mod Acceptance
pub mod Bytes
pub mod Chroma
pub mod Lowest
pub mod Near
pub mod Painted
pub mod RefillBytes
pub mod Stored
pub mod Surplus
pub mod Taken
pub mod Whole
