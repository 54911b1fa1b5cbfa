pub mod Adding
pub mod Add
