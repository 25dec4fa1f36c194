-- Laws that the proofs and the documents cite.
pub mod BlendCalls
pub mod BlendClaims
pub mod BlendHanded
pub mod Blended
pub mod ChartClaims
pub mod Handed
pub mod Means
pub mod Least
pub mod Lowest
pub mod Mixing
pub mod PatchClaims
pub mod Readings
pub mod Settling
pub mod Worked
pub mod WorkedBlends
pub mod WorkedCharts
pub mod Summing
