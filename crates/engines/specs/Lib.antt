pub mod CardRuns
pub mod Plain
