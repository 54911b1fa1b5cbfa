pub mod Granting
pub mod Parts
