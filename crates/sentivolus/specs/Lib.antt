-- To be read: Design, Calls.
pub mod Design
pub mod Calls
pub mod Answers
