pub mod Expanders
