pub mod Calls
pub mod Book
pub mod Demands
pub mod Standing
pub mod Example
