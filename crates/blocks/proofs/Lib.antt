pub mod Powers
pub mod Table
pub mod Searches
pub mod Rounding
pub mod Bits
pub mod Buddies
pub mod Pieces
