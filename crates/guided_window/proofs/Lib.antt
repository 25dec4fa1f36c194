-- Laws that proofs cite.
pub mod Puts
pub mod Windows
