-- The index of what must be believed: a file for each section of document 01, in its order, nothing but the definitions that render its sentences.
-- A crate above cites promises through these files alone; a name that moves breaks the check of this crate.
pub mod Colour
pub mod Rounding
pub mod Geometry
pub mod Linear
pub mod Triangular
pub mod Guided
pub mod Reader
pub mod Lists
pub mod Fill
pub mod Refusals
