-- The laws behind the functions' proofs, and the theorem that a line read word by word is the line.
pub mod Words
pub mod AfterFirst
pub mod Parentheses
pub mod Long
pub mod Track
pub mod Lines
pub mod Figures
