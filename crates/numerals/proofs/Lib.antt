-- The laws behind the functions' proofs, and the theorems: what is written reads back.
pub mod Numbers
