-- Laws that the proofs and other crates cite.
pub mod Acceptance
pub mod Alike
pub mod Commented
pub mod Comments
pub mod Digits
pub mod Fields
pub mod Numbers
pub mod Products
pub mod Ratios
pub mod Runs
pub mod SingleBytes
pub mod Whole
pub mod Worked
pub mod Written
