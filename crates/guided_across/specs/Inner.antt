pub mod ByteCells
pub mod Luma
pub mod Parts
pub mod Sums
pub mod Terms
