-- To be read: Parking, and the statements of Returned.
pub mod Parking
pub mod Returned
pub mod Asks
