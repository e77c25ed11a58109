pub mod Steps
pub mod ReadSteps
pub mod WriteSteps
pub mod KnownSteps
