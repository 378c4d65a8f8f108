-- To be read: Blocks.
pub mod Blocks
pub mod Laws
