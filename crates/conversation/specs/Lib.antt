pub mod Conversation
pub mod Tracks
