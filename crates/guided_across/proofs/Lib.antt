-- Laws that the proofs and other crates cite.
pub mod Areas
pub mod ByteBlocks
pub mod ReadBack
pub mod Threes
