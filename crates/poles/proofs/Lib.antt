pub mod Numbers
pub mod Heard
