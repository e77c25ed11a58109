pub mod Octets
pub mod Tests
pub mod Laws
pub mod Joined
pub mod Given
