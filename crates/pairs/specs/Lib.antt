-- For the proofs.
pub mod Pairs
pub mod Ticking
pub mod Turning
pub mod Slotwise
pub mod Channels
