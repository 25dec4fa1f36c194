-- Laws that the proofs and other crates cite.
pub mod AcrossRuns
pub mod Bound
pub mod Claims
pub mod Exact
pub mod LinearRows
pub mod Lowest
pub mod Positions
pub mod Span
pub mod Surplus
pub mod Turns
pub mod Vectors
mod StoredRows
