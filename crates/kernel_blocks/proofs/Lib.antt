-- Laws of blocks: the offsets in floats (RedAndBlue, ChromaOffsets, Greens, GridBits), the fixed kernel (FixedRows), stored pixels (Puts, Stored, Packed).
pub mod Blocks
pub mod ChromaOffsets
pub mod Chromas
pub mod FixedRows
pub mod GreenQuotient
pub mod Greens
pub mod GridBits
pub mod Levels
pub mod Lumas
pub mod Packed
pub mod Puts
pub mod RedAndBlue
pub mod Shades
pub mod Signed
pub mod Stored
pub mod StudioBlocks
pub mod Wide
