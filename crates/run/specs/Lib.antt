-- To be read: Run, AsComb2.
pub mod Run
pub mod Promises
pub mod Laws
pub mod Rest
pub mod Unsteered
pub mod Zeros
pub mod Heard
pub mod AsComb2
