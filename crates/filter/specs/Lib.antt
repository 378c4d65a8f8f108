-- To be read: Voice, Filter.
pub mod Voice
pub mod Filter
pub mod Judged
