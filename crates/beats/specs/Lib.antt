pub mod Beats
pub mod Laws
pub mod Turns
