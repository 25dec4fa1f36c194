pub mod Blocks
pub mod Gathered
pub mod Colours
