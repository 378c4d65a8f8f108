pub mod Abreast
