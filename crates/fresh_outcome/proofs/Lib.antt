pub mod Lists
pub mod Rows
pub mod Runs
pub mod Edits
pub mod Reports
