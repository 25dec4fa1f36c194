-- Laws that the proofs and other crates cite.
pub mod Colouring
pub mod RowSamples
