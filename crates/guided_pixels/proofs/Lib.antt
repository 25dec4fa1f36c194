-- Laws that the proofs and other crates cite.
pub mod CellValues
pub mod DetailRows
pub mod DownLerps
pub mod Lerps
pub mod Phases
pub mod RowSteps
pub mod LineRows
pub mod TwoPixels
pub mod ValuePairs
pub mod ValueRows
