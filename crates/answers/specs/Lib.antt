pub mod Paper
pub mod Judging
