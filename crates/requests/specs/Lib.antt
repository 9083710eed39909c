pub mod Request
pub mod Kept
