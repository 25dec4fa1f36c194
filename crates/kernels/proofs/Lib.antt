-- Laws of the kernels: each channel over natural numbers, colours put together, worked cases, and T.871's coefficients.
pub mod Cases
pub mod Channels
pub mod Colours
pub mod FixedPoint
pub mod Lowest
pub mod Studios
pub mod T871
pub mod TableRules
