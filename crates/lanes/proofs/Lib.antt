-- Laws of blocks, which callers cite.
pub mod Made
pub mod Overwritten
pub mod Loads
