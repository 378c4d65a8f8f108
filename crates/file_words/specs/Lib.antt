-- To be read: Words.
pub mod Words
pub mod Laws
