pub mod Flat
pub mod Middle
