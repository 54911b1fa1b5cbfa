pub mod Facts
pub mod Heads
pub mod Records
pub mod Counters
pub mod Walks
pub mod Classes
pub mod Ends
pub mod Asking
