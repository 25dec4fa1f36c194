pub mod Tests
pub mod Samples
pub mod Picture
pub mod Limits
pub mod Rectangles
pub mod Differences
pub mod Scratch
pub mod Inner
