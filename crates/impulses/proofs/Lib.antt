pub mod Reading
pub mod Rendering
pub mod Verdicts
pub mod Writing
