-- To be read: File.
pub mod File
pub mod Image
pub mod Asks
pub mod Trip
pub mod Making
pub mod Same
