pub mod Book
pub mod Demands
pub mod Example
