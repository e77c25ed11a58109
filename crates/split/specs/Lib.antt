pub mod Splitting
pub mod Within
pub mod Laws
pub mod ReadBack
