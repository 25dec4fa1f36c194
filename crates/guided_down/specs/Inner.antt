pub mod Down
pub mod Extremes
pub mod Nines
pub mod Slopes
