pub mod Floats
pub mod Lane
pub mod Below
pub mod Order
