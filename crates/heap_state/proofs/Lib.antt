pub mod InRange
pub mod Made
