-- The laws behind the functions' proofs.
pub mod Writing
pub mod Fields
pub mod Putting
pub mod Listing
pub mod Parts
pub mod Lengths
mod Examples
