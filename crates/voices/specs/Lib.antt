-- To be read: Calls, Feed and the statements of Voice, Alone and Audition. Example shows that they speak of something; Accepted is for the proofs.
pub mod Calls
pub mod Feed
pub mod Voice
pub mod Alone
pub mod Audition
pub mod Accepted
pub mod Example
