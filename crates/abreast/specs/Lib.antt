pub mod Abreast
pub mod Rest
