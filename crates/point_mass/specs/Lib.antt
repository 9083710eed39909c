pub mod Flight
pub mod Solver
pub mod Figures
