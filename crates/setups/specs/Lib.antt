-- To be read: Setup, Parked and the statements of Back and AnyOrder, with Order.
pub mod Setup
pub mod Order
pub mod Parked
pub mod Back
pub mod AnyOrder
