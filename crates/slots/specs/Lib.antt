-- To be read: Engine.
pub mod Engine
pub mod Laws
pub mod Heard
pub mod Slots
pub mod Frame
pub mod Resting
pub mod Records
