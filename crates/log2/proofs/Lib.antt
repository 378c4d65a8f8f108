pub mod Rounds
pub mod Numerator
pub mod Over
pub mod Window
pub mod Exact
