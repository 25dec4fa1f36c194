-- Laws of the loops. GuidedRows is what callers cite of rows one after another.
pub mod Catching
pub mod GuidedRows
