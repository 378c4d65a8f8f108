-- To be read: Stages.
pub mod Stages
pub mod Promises
