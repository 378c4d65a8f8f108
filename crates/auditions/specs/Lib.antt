-- To be read: Audition, and the statements of Committed.
pub mod Audition
pub mod Committed
