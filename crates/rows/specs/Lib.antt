-- To be read: Rows.
pub mod Rows
pub mod Asks
