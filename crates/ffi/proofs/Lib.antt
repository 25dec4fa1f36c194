-- Laws that the proofs and other crates cite.
pub mod RoundTrip
pub mod Strange
