pub mod Granting
pub mod GrantingAt
