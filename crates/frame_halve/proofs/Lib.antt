pub mod Windows
pub mod Halves
