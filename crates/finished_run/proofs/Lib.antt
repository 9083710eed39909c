pub mod Reading
pub mod Changes
