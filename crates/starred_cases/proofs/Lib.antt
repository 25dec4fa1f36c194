pub mod Hold
pub mod Constant
