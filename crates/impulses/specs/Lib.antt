pub mod Asks
pub mod Cells
pub mod Example
pub mod Impulse
pub mod Prefix
