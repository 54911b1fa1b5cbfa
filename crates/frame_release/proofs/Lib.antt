pub mod Compared
pub mod Spans
pub mod Releases
pub mod Giving
