pub mod Arrivals
pub mod Message
pub mod Page
pub mod Keys
pub mod Bounds
pub mod Laws
pub mod Forms
