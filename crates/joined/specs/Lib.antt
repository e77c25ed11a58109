pub mod Fronts
pub mod Laws
