pub mod Reporting
pub mod Laws
