pub mod Numeric
pub mod Poll
pub mod Drop
