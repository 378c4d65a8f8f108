pub mod Reading
pub mod Surveying
pub mod Restoring
pub mod Writing
