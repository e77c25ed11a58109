pub mod Ussd
pub mod Laws
pub mod Within
