-- To be read: Kernels.
pub mod Kernels
pub mod Tuning
pub mod Promises
pub mod Laws
pub mod Keeping
pub mod Heard
