pub mod Fractions
pub mod Rounding
pub mod Operations
