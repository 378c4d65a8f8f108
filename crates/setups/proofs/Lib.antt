pub mod Accepted
pub mod Heard
pub mod AnyOrder
pub mod Back
