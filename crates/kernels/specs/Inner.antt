pub mod Forms
pub mod Kernels
