pub mod Kept
pub mod Openings
