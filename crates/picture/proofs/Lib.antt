pub mod Readings
pub mod Reversals
pub mod Fronts
pub mod Rooms
