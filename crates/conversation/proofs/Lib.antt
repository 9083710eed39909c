-- The laws behind the functions' proofs.
pub mod Standing
pub mod Replies
pub mod Responses
