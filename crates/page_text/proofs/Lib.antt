-- The laws behind the functions' proofs, and the vectors.
pub mod Lengths
pub mod Laws
mod Figures
