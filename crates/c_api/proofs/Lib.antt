-- The laws behind the functions' proofs, and the theorem that a double reads back as what was written.
pub mod Laws
pub mod Back
