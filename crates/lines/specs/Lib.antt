pub mod Lines
pub mod Ring
pub mod Order
pub mod Whole
pub mod Length
pub mod View
