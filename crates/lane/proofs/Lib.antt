pub mod Zeros
pub mod Compared
pub mod Order
