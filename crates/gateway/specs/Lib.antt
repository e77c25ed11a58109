pub mod Gateway
pub mod Places
