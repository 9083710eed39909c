mod Constants
mod Figures
pub mod Polls
mod Fits
mod Presence
pub mod Questions
pub mod Reading
mod Ranges
pub mod Warnings
pub mod Calls
