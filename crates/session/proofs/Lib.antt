pub mod Laws
pub mod Opens
pub mod Refusals
pub mod Replies
