pub mod Lists
pub mod Changing
