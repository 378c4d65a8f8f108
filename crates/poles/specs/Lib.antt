-- To be read: Poles.
pub mod Poles
pub mod AtZero
pub mod Numbers
