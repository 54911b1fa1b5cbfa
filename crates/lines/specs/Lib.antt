pub mod Pieces
pub mod Gather
pub mod Running
