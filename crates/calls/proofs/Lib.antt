pub mod Enough
pub mod Showing
