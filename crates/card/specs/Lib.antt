pub mod Card
pub mod Carries
