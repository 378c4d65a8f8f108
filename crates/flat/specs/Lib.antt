pub mod Zeros
pub mod Flat
pub mod Middle
