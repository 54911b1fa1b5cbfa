pub mod Ors
pub mod Rows
