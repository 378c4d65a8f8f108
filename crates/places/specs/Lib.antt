-- To be read: Places.
pub mod Places
pub mod Once
pub mod Heads
pub mod Marks
pub mod Order
pub mod Survey
pub mod Sole
pub mod ByHead
