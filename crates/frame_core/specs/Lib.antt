pub mod Deciding
pub mod Carried
pub mod Pick
pub mod Tally
