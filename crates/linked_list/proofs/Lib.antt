pub mod Steps
pub mod Searching
pub mod Chains
pub mod Removing
pub mod Positions
pub mod Counting
