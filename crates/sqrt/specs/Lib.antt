-- To be read: Root, Opening, and the claim of Nearest.
pub mod Root
pub mod Opening
pub mod Nearest
pub mod Inner
