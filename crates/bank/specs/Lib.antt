-- To be read: Bank, and the two statements of Demand3, with Example.
pub mod Bank
pub mod Demand3
pub mod Example
pub mod Promises
pub mod Answers
