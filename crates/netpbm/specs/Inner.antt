pub mod Held
pub mod HeldInput
pub mod Reading
pub mod Taken
pub mod Texts
