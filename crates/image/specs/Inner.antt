pub mod Differences
pub mod Limits
pub mod Tests
