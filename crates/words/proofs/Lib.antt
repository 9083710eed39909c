-- The laws behind the functions' proofs.
pub mod Rule
pub mod Found
