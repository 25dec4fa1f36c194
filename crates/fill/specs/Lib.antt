pub mod Fill
pub mod Tests
pub mod Refill
pub mod Inner
