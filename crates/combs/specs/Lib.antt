-- To be read: Combs, AsComb2.
pub mod Combs
pub mod Promises
pub mod Ends
pub mod AsComb2
