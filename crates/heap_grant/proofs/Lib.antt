pub mod Serving
pub mod Granting
