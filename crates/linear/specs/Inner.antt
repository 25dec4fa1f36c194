pub mod Down
pub mod Stores
pub mod AcrossRows
pub mod Linear
