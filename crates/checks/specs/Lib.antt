-- To be read: Setup, Checks.
pub mod Setup
pub mod Checks
pub mod Accepted
