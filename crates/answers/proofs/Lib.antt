pub mod Apart
pub mod Judging
