-- Laws that the proofs and other crates cite.
pub mod Buffers
pub mod DownSteps
pub mod NineSamples
pub mod Pairs
pub mod Sixteens
pub mod Statistics
pub mod Wholes
mod SlopeBlocks
