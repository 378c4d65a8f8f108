pub mod Sums
pub mod Cases
pub mod Bound
pub mod Results
pub mod Values
pub mod Held
pub mod Clip
