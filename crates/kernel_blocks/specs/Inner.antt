pub mod Blocks
pub mod Floating
pub mod Studio
pub mod Words
pub mod Stores
