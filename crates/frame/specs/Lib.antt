pub mod Outcome
pub mod Pick
