pub mod Solver
pub mod Figures
pub mod Turns
