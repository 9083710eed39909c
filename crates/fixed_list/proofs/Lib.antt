pub mod Places
pub mod Pushed
