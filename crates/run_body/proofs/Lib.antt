pub mod Laws
pub mod Laid
