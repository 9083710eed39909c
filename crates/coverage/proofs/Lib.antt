pub mod Division
pub mod TableRows
pub mod Numbers
pub mod Fitting
pub mod Reader
pub mod Figures
pub mod Report
