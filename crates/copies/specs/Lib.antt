pub mod Copying
pub mod FitLaws
