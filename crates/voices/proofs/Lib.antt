-- Voice and Audition prove what their files in specs/ state.
pub mod Slots
pub mod Plain
pub mod Blocks
pub mod Steps
pub mod Voice
pub mod Audition
pub mod Example
