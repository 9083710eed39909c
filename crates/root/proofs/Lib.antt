-- The laws behind the functions' proofs, the theorem that the definition is IEEE 754's, and values of it.
pub mod Squares
pub mod Patterns
pub mod Scaling
pub mod Definition
pub mod Cases
pub mod Nearest
pub mod Figures
