pub mod Lines
pub mod Texts
pub mod Reading
pub mod Bytes
pub mod Images
pub mod Ascii
pub mod Comments
pub mod Inner
