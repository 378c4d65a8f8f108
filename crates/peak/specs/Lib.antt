-- To be read: Peak, and the statements of Laws.
pub mod Peak
pub mod Laws
pub mod Running
