pub mod Saying
pub mod Requests
pub mod Kept
