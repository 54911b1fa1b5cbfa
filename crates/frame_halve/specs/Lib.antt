pub mod Halve
