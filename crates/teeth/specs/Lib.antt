-- To be read: Teeth, and the statements of Laws.
pub mod Teeth
pub mod Promises
pub mod Needed
pub mod Cells
pub mod Placing
pub mod Taps
pub mod Laws
