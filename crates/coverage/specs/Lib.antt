pub mod File
pub mod Held
pub mod Table
pub mod Reading
pub mod Loading
pub mod Rows
pub mod Report
