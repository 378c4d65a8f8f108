pub mod Isqrt
pub mod Cases
pub mod Scaled
pub mod OpeningRule
pub mod Nearest
