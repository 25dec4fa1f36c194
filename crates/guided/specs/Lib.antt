pub mod Scratch
pub mod Calls
pub mod Events
pub mod Guided
