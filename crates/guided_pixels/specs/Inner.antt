pub mod Across
pub mod Columns
pub mod Pixels
pub mod Row
pub mod Values
pub mod Laws
pub mod Lines
