-- Laws that the proofs and other crates cite.
pub mod Any
pub mod Blocks
pub mod Layouts
pub mod Pictures
pub mod Holding
pub mod Quotients
pub mod Ranges
pub mod Surplus
