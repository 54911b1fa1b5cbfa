pub mod Deciding
pub mod Parts
