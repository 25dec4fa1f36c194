-- Laws that the proofs and other crates cite.
pub mod Counted
pub mod FilledRows
pub mod Handed
pub mod Lowest
pub mod WorkedRows
