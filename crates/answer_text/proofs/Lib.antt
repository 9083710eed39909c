pub mod ByPlace
pub mod Fits
pub mod Laws
