pub mod Saying
pub mod Records
pub mod Pass
pub mod Tallies
