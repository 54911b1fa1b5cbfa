pub mod Grants
pub mod Searching
pub mod Ledgers
pub mod Keeping
