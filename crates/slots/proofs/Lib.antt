pub mod FindSteps
pub mod OrderSteps
pub mod AgedLaws
