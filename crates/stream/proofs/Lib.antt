pub mod Figures
pub mod Bytes
pub mod Program
