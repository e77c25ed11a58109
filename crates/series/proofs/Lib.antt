pub mod TakeSteps
pub mod KeepsFormed
pub mod Completing
