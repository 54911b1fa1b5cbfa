pub mod Steps
pub mod Halving
pub mod Joining
pub mod Pushing
