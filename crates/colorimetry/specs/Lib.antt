pub mod Patches
pub mod PatchClaims
pub mod Mixes
pub mod Charts
pub mod ChartClaims
pub mod Blends
pub mod BlendClaims
pub mod Inner
