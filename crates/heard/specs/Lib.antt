pub mod Given
pub mod Heard
pub mod Laws
pub mod Back
pub mod Steps
