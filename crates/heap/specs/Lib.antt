pub mod Outcome
pub mod Told
