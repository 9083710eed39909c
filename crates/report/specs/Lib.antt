pub mod Places
pub mod Report
pub mod Reading
