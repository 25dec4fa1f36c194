-- The laws of rounding that callers cite are in Laws; the other files show what the code computes.
pub mod Laws
mod Limits
mod OnGrid
mod Centring
mod ByBits
mod Picked
mod WholeBits
pub mod EachLane
